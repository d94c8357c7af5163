-- Whether an invariant holds does not depend on the order of the rows.
use Rattle.std.proofs.Common.{◌≡◌, ℕ, ◌==◌, not, ◌&&◌, ◌||◌, nat_le, ◌∙◌, refl}
use Rattle.std.specs.List.{list_all}
use Rattle.update_model.specs.declared.value.Value.{Value}
use Rattle.update_model.specs.declared.value.Value.TheVariants as value
use Rattle.row_check.specs.Meaning.{value_at}
use Rattle.row_check.specs.Trees.{holds_tree}
use Rattle.table_model.specs.Visible.{Rules, TableRow, same_row}
use Rattle.table_model.specs.Verdicts.{in_table, matches_among}
use Rattle.table_model.specs.Invariants.{Claim, Unique, UniqueKept, AtMost, Refers, Check, Match, names_shown, claim_holds}
use Rattle.table_model.proofs.Alike.{Alike, same_any, same_all, same_count}
use Rattle.table_model.proofs.SameEffects.{same_unique, same_match}
use Rattle.std.specs.Prelude.{List}

same_named : {b c : List TableRow} → Alike b c → (target : ℕ) (v : Value) → names_shown b target v ≡ names_shown c target v
same_named a target (value.Row name) = same_any (λ row. same_row row.name name && (row.table == target)) a
same_named a target value.Null = refl
same_named a target (value.Int n) = refl
same_named a target (value.Text bytes) = refl
same_named a target (value.Flag flag) = refl
same_named a target (value.Own index) = refl

pub same_claim : (rules : Rules) {b c : List TableRow} → Alike b c → (claim : Claim) → claim_holds rules b claim ≡ claim_holds rules c claim
same_claim rules a (Unique t col) = same_unique rules a t col
same_claim rules a (UniqueKept t col) = same_unique rules a t col
same_claim rules a (AtMost t k) = λ i. (k == 0) || nat_le (same_count (in_table t) a i) k
same_claim rules {b} {c} a (Refers t col target act) =
    (λ i. list_all (λ row. not (in_table t row) || same_named a target (value_at row.values col) i) b)
    ∙ same_all (λ row. not (in_table t row) || names_shown c target (value_at row.values col)) a
same_claim rules a (Check t x) = same_all (λ row. not (in_table t row) || holds_tree rules.ask row.values x) a
same_claim rules {b} {c} a (Match t m) =
    (λ i. list_all (λ row. not (in_table t row) || same_match rules a row.values m (value_at row.values m.reference) i) b)
    ∙ same_all (λ row. not (in_table t row) || matches_among c row.values m (value_at row.values m.reference)) a
