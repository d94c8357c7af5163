-- Limits table by table.
use Rattle.std.proofs.Common.{◌≡◌, ℕ, zero, suc, ◌+◌, Bool, true, false, ◌&&◌, ◌||◌, List, [], ◌∷◌, drop, sym, ap, ◌∙◌, add-one, Some, slice_get}
use Rattle.std.specs.List.{list_all}
use Rattle.schema.specs.declared.table_def.TableDef.{TableDef}
use Rattle.table_model.specs.Verdicts.{at_most_holds, keeps_least, limits_hold, unique_holds}
use Rattle.table_model.specs.Visible.{TableRow}

-- what is left of a list begins with what stands there
left : {X : Type 0} (xs : List X) (i : ℕ) (x : X) → slice_get xs i ≡ Some x → drop i xs ≡ x ∷ drop (suc i) xs
left [] i x h = absurd cc
left (y ∷ ys) zero x h = let same : y ≡ x = cc in ap (λ z. z ∷ ys) same
left (y ∷ ys) (suc i) x h = left ys i x h

pub left_at : {X : Type 0} (xs : List X) (i : ℕ) (x : X) → slice_get xs i ≡ Some x → drop i xs ≡ x ∷ drop (i + 1) xs
left_at xs i x h = left xs i x h ∙ ap (λ n. x ∷ drop n xs) (sym (add-one i))

-- whether the limits of a table hold
abbrev pub limits_of : List TableRow → ℕ → TableDef → Bool
limits_of rows number table = list_all (λ rule. keeps_least table.kept rule.column || unique_holds rows number rule.column) table.uniques && at_most_holds rows number table.at_most

pub limits_broken : (rows : List TableRow) (tables : List TableDef) (number : ℕ) (table : TableDef) (all : Bool) → slice_get tables number ≡ Some table → limits_of rows number table ≡ false
    → limits_hold rows number (drop number tables) ≡ all → false ≡ all
limits_broken rows tables number table all at broken told =
    sym (ap (limits_hold rows number) (left_at tables number table at) ∙ ap (λ (b : Bool). b && limits_hold rows (number + 1) (drop (number + 1) tables)) broken) ∙ told

pub limits_next : (rows : List TableRow) (tables : List TableDef) (number : ℕ) (table : TableDef) (all : Bool) → slice_get tables number ≡ Some table → limits_of rows number table ≡ true
    → limits_hold rows number (drop number tables) ≡ all → limits_hold rows (number + 1) (drop (number + 1) tables) ≡ all
limits_next rows tables number table all at kept told =
    sym (ap (limits_hold rows number) (left_at tables number table at) ∙ ap (λ (b : Bool). b && limits_hold rows (number + 1) (drop (number + 1) tables)) kept) ∙ told
