-- Where every invariant is accepted, no table has a UNIQUE without KEEP LEAST or an ATMOST.
use Rattle.std.proofs.Common.{◌≡◌, ℕ, ◌+◌, ◌==◌, Bool, true, false, ◌&&◌, cond, List, [], ◌∷◌, ◌++◌, Option, refl}
use Rattle.std.specs.List.{list_all}
use Rattle.std.proofs.lemmas.Bool.{and_parts}
use Rattle.schema.specs.declared.rules.UniqueRule.{UniqueRule}
use Rattle.schema.specs.declared.table_def.TableDef.{TableDef}
use Rattle.confluence_laws.specs.Confluence.{accepts, are_accepted}
use Rattle.table_model.specs.declared.invariant.InvariantKind.TheVariants as kind
use Rattle.table_model.specs.Invariants.{Declared, Unique, UniqueKept, declared_at, at_most_declared, check_declared, each_from, match_declared, reference_declared, table_declared, unique_declared}
use Rattle.table_model.specs.Verdicts.{is_unlimited, keeps_least}
use Rattle.table_model.specs.Visible.{Rules}

-- the parts of what is accepted
accepted_parts : (rules : Rules) (xs ys : List Declared) → are_accepted rules (xs ++ ys) ≡ true → (are_accepted rules xs ≡ true) × (are_accepted rules ys ≡ true)
accepted_parts rules [] ys all = (refl, all)
accepted_parts rules (d ∷ ds) ys all =
    let parts = and_parts (accepts rules d.claim) (are_accepted rules (ds ++ ys)) all in
    let rest = accepted_parts rules ds ys parts.1 in
    (rw (parts.0, rest.0) refl, rest.1)

only_kept : (rules : Rules) (kept : Option ℕ) (number place : ℕ) (uniques : List UniqueRule) → are_accepted rules (each_from (unique_declared kept number) place uniques) ≡ true
    → list_all (λ rule. keeps_least kept rule.column) uniques ≡ true
only_kept rules kept number place [] all = refl
only_kept rules kept number place (u ∷ us) all =
    let least = declared_at kind.UniqueKept number place u.line (UniqueKept number u.column) in
    let other = declared_at kind.Unique number place u.line (Unique number u.column) in
    let rest = each_from (unique_declared kept number) (place + 1) us in
    let step : (b : Bool) → are_accepted rules (cond b least other ++ rest) ≡ true → (b && list_all (λ rule. keeps_least kept rule.column) us) ≡ true =
    elim [ true ↦ λ e. only_kept rules kept number (place + 1) us e | false ↦ λ e. absurd cc ] in
    step (keeps_least kept u.column) all

no_limit : (rules : Rules) (number : ℕ) (table : TableDef) → are_accepted rules (at_most_declared number table) ≡ true → (table.at_most == 0) ≡ true
no_limit rules number table all = by_case (table.at_most == 0) refl
  where
    by_case : (b : Bool) → (table.at_most == 0) ≡ b → (table.at_most == 0) ≡ true
    by_case true e = e
    by_case false e = absurd (let none : are_accepted rules (at_most_declared number table) ≡ false = rw e refl in cc)

pub unlimited_from : (rules : Rules) (number : ℕ) (tables : List TableDef) → are_accepted rules (each_from table_declared number tables) ≡ true → list_all is_unlimited tables ≡ true
unlimited_from rules number [] all = refl
unlimited_from rules number (t ∷ ts) all =
    let parts = accepted_parts rules (table_declared number t) (each_from table_declared (number + 1) ts) all in
    let uniques = each_from (unique_declared t.kept number) 0 t.uniques in
    let limits = at_most_declared number t in
    let references = each_from (reference_declared number) 0 t.columns in
    let checks = each_from (check_declared number) 0 t.checks in
    let matches = each_from (match_declared number) 0 t.matches in
    let a = accepted_parts rules (((uniques ++ limits) ++ references) ++ checks) matches parts.0 in
    let b = accepted_parts rules ((uniques ++ limits) ++ references) checks a.0 in
    let d = accepted_parts rules (uniques ++ limits) references b.0 in
    let e = accepted_parts rules uniques limits d.0 in
    rw (only_kept rules t.kept number 0 t.uniques e.0, no_limit rules number t e.1) (unlimited_from rules (number + 1) ts parts.1)
