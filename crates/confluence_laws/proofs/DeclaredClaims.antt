-- The invariants of a schema say what its tables declare.
use Rattle.std.proofs.Common.{◌≡◌, ℕ, ◌+◌, ◌==◌, suc, Bool, true, false, cond, List, [], ◌∷◌, refl, ◌∙◌, ap, subst, arith, Contains, Option, Some, None, slice_get, option_and_then, unwrap_or}
use Rattle.std.specs.List.{AllByRecursion}
use Rattle.std.proofs.lemmas.Bool.{both_ways, eq-eqb, eqb-true}
use Rattle.std.proofs.lemmas.List.Elements.{All-contains, All-from_recursion}
use Rattle.schema.specs.declared.column.Column.{Column}
use Rattle.table_model.specs.declared.invariant.InvariantKind.TheVariants as kind
use Rattle.schema.specs.declared.action.Action.{Action}
use Rattle.schema.specs.declared.rules.UniqueRule.{UniqueRule}
use Rattle.schema.specs.declared.table_def.TableDef.{TableDef}
use Rattle.schema.specs.Columns.{target_of, reference_at}
use Rattle.schema.specs.Numbers.{no_table}
use Rattle.table_model.specs.Visible.{Rules, kept_of, table_of}
use Rattle.table_model.specs.Invariants.{AtMost, Unique, UniqueKept, Declared, each_from, declared_at, unique_declared, at_most_declared, refers_declared, reference_declared, check_declared, match_declared, table_declared, invariants_of}
use Rattle.table_model.proofs.Each.{each-append}
use Rattle.confluence_laws.proofs.Accepted.{IsDeclared}

-- what each item declares is so where it is so of each item at its place
from_each : {X : Type 0} (P : Declared → Type 0) (declares : ℕ → X → List Declared) (number : ℕ) (xs : List X)
    → ((place : ℕ) (x : X) → slice_get xs place ≡ Some x → AllByRecursion P (declares (number + place) x)) → AllByRecursion P (each_from declares number xs)
from_each P declares number [] h = tt
from_each P declares number (x ∷ xs) h =
    let here : number + 0 ≡ number = omega arith in
    each-append P (declares number x) (each_from declares (number + 1) xs) (subst (λ (n : ℕ). AllByRecursion P (declares n x)) here (h 0 x refl))
    (from_each P declares (number + 1) xs (λ place y at.
    let there : number + suc place ≡ (number + 1) + place = omega arith in subst (λ (n : ℕ). AllByRecursion P (declares n y)) there (h (suc place) y at)))

abbrev pub Says : Rules → Declared → Type 0
Says rules d = IsDeclared rules d.claim

pub found : {X : Type 0} (declares : ℕ → X → List Declared) (P : Declared → Type 0) (xs : List X)
    → ((place : ℕ) (x : X) → slice_get xs place ≡ Some x → AllByRecursion P (declares place x)) → AllByRecursion P (each_from declares 0 xs)
found declares P xs h = from_each P declares 0 xs (λ place x at. let n : place ≡ 0 + place = omega arith in subst (λ (k : ℕ). AllByRecursion P (declares k x)) n (h place x at))

reference_says : (rules : Rules) (number place line : ℕ) (o : Option (ℕ × Action)) → reference_at (table_of rules number).columns place ≡ o → AllByRecursion (Says rules) (refers_declared number place line o)
reference_says rules number place line None e = tt
reference_says rules number place line (Some r) e = (e, tt)

at_most_says : (rules : Rules) (number : ℕ) → AllByRecursion (Says rules) (at_most_declared number (table_of rules number))
at_most_says rules number =
    let table = table_of rules number in
    let step : (b : Bool) → (table.at_most == 0) ≡ b → AllByRecursion (Says rules) (cond b [] (declared_at kind.AtMost number 0 table.at_most_line (AtMost number table.at_most))) =
    elim [ true ↦ λ e. tt | false ↦ λ e. ((refl, λ none. both_ways _ e (eq-eqb table.at_most 0 none)), tt) ] in
    step (table.at_most == 0) refl

unique_says : (rules : Rules) (number place : ℕ) (rule : UniqueRule) → slice_get (table_of rules number).uniques place ≡ Some rule → (o : Option ℕ) → kept_of rules number ≡ o
    → AllByRecursion (Says rules) (unique_declared o number place rule)
unique_says rules number place rule at None e = ((place, rule, at, refl), tt)
unique_says rules number place rule at (Some kept) e =
    let step : (b : Bool) → (kept == rule.column) ≡ b
    → AllByRecursion (Says rules) (cond b (declared_at kind.UniqueKept number place rule.line (UniqueKept number rule.column)) (declared_at kind.Unique number place rule.line (Unique number rule.column))) = elim [
      | true ↦ λ same. (e ∙ ap (λ (n : ℕ). Some n) (eqb-true kept rule.column same), tt)
      | false ↦ λ apart. ((place, rule, at, refl), tt)
    ] in
    step (kept == rule.column) refl

table_says : (rules : Rules) (number : ℕ) → AllByRecursion (Says rules) (table_declared number (table_of rules number))
table_says rules number =
    let table = table_of rules number in
    let uniques = found (unique_declared (kept_of rules number) number) (Says rules) table.uniques (λ place rule at. unique_says rules number place rule at (kept_of rules number) refl) in
    let references = found (reference_declared number) (Says rules) table.columns (λ place column at.
    reference_says rules number place column.line (target_of column.kind) (ap (λ (o : Option Column). option_and_then (λ c. target_of c.kind) o) at)) in
    let checks = found (check_declared number) (Says rules) table.checks (λ place rule at. ((place, rule, at, refl), tt)) in
    let matches = found (match_declared number) (Says rules) table.matches (λ place rule at. ((place, at), tt)) in
    each-append (Says rules) _ (each_from (match_declared number) 0 table.matches)
    (each-append (Says rules) _ (each_from (check_declared number) 0 table.checks)
    (each-append (Says rules) _ (each_from (reference_declared number) 0 table.columns)
    (each-append (Says rules) (each_from (unique_declared (kept_of rules number) number) 0 table.uniques) (at_most_declared number table) uniques (at_most_says rules number))
    references)
    checks)
    matches

pub declared_each : (rules : Rules) → AllByRecursion (Says rules) (invariants_of rules)
declared_each rules = found (table_declared) (Says rules) rules.tables (λ number table at.
    let is : table_of rules number ≡ table = ap (λ (o : Option TableDef). unwrap_or o no_table) at in
    subst (λ (t : TableDef). AllByRecursion (Says rules) (table_declared number t)) is (table_says rules number))

-- what is among the invariants of a schema is declared there
pub declared_says : (rules : Rules) (d : Declared) → Contains (invariants_of rules) d → IsDeclared rules d.claim
declared_says rules d c = All-contains (Says rules) (invariants_of rules) d (All-from_recursion (Says rules) (invariants_of rules) (declared_each rules)) c
