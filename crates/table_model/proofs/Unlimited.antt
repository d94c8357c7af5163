-- No limit is broken where there is none.
use Rattle.std.proofs.Common.{◌≡◌, ℕ, ◌+◌, ◌==◌, true, ◌||◌, List, [], ◌∷◌, Option, refl}
use Rattle.std.specs.List.{list_all}
use Rattle.std.proofs.lemmas.Bool.{and_parts, and_from, or_left}
use Rattle.schema.specs.declared.rules.UniqueRule.{UniqueRule}
use Rattle.schema.specs.declared.table_def.TableDef.{TableDef}
use Rattle.table_model.specs.Visible.{TableRow}
use Rattle.table_model.specs.Verdicts.{keeps_least, unique_holds, limits_hold, is_unlimited}

kept_hold : (rows : List TableRow) (number : ℕ) (kept : Option ℕ) (us : List UniqueRule) → list_all (λ rule. keeps_least kept rule.column) us ≡ true
    → list_all (λ rule. keeps_least kept rule.column || unique_holds rows number rule.column) us ≡ true
kept_hold rows number kept [] h = refl
kept_hold rows number kept (u ∷ us) h =
    let parts = and_parts (keeps_least kept u.column) _ h in and_from _ _ (or_left _ _ parts.0) (kept_hold rows number kept us parts.1)

pub unlimited_holds : (rows : List TableRow) (number : ℕ) (tables : List TableDef) → list_all is_unlimited tables ≡ true → limits_hold rows number tables ≡ true
unlimited_holds rows number [] h = refl
unlimited_holds rows number (table ∷ tables) h =
    let parts = and_parts (is_unlimited table) _ h in
    let two = and_parts (list_all (λ rule. keeps_least table.kept rule.column) table.uniques) _ parts.0 in
    and_from _ _ (and_from _ _ (kept_hold rows number table.kept table.uniques two.0) (or_left (table.at_most == 0) _ two.1)) (unlimited_holds rows (number + 1) tables parts.1)
