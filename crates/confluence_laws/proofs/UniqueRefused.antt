-- The counterexample that is given for a UNIQUE confirms, whatever the schema.
use Rattle.std.proofs.Common.{◌≡◌, ℕ, suc, true, false, List, [], ◌∷◌, length, refl, sym, ap, ◌∙◌, nat_le, arith, is_none}
use Rattle.std.specs.List.{AllByRecursion}
use Rattle.update_model.specs.declared.value.Value.{Value}
use Rattle.row_check.specs.declared.cmp.Cmp.TheVariants as cmp
use Rattle.row_check.specs.Comparisons.{compares}
use Rattle.row_check.specs.Meaning.{value_at}
use Rattle.table_model.specs.Visible.{Rules, kept_of, table_of}
use Rattle.table_model.specs.Invariants.{Claim, Unique}
use Rattle.confluence_laws.specs.Confluence.{accepts, breaks}
use Rattle.confluence_laws.specs.Examples.{numbered, has_table, item_of, base_of, after, chain, need}
use Rattle.confluence_laws.proofs.Plain.{is_plain}
use Rattle.schema.proofs.Soundness.{IsSound}
use Rattle.confluence_laws.proofs.Accepted.{IsDeclared}
use Rattle.confluence_laws.proofs.Plans.{rows_of, Passes}
use Rattle.confluence_laws.proofs.Sides.{unique_confirmed}
use Rattle.confluence_laws.proofs.Needed.{AreSampled, filled_named, filled_plain, table_counted, made_once, made_passes, item_passes, base_made}

pub unique_refused : (rules : Rules) → AreSampled rules → IsSound rules.tables
    → (t c : ℕ) → is_none (kept_of rules t) ≡ true → nat_le (length rules.tables) t ≡ false → is_plain (table_of rules t).columns c ≡ true → compares cmp.Eq (value_at (table_of rules t).sample c) (value_at (table_of rules t).sample c) ≡ true
    → (earlier : List Claim) → AllByRecursion (λ i. IsDeclared rules i × (accepts rules i ≡ true)) earlier
    → breaks rules earlier (Unique t c) (chain (base_of rules t)) (after (length (base_of rules t)) (suc (length (base_of rules t))) (item_of rules (base_of rules t) t) ∷ [])
    (after (length (base_of rules t)) (suc (suc (length (base_of rules t)))) (item_of rules (base_of rules t) t) ∷ []) ≡ true
unfolding need
unique_refused rules samples sound t c free known plain self_equal earlier ok =
    let items = base_of rules t in
    let x = item_of rules items t in
    let sample = (table_of rules t).sample in
    let base = base_made rules samples t known in
    let made = base.0.made in
    let fresh : has_table items t ≡ false = base.0.above t (omega arith) in
    let once = made_once rules samples (x ∷ items) (record { is = refl; new = fresh; known = known; needs = base.1 }, made) in
    let passes : (id : ℕ) → Passes rules id x (rows_of items) = λ id. item_passes rules samples items t id made known base.1 once in
    unique_confirmed rules sound items (made_passes rules samples items made) x free t c (value_at sample c) refl plain
    (λ id. ap (λ (l : List Value). value_at l c) (filled_named (numbered id) items (table_of rules t).columns sample (samples t known).fit) ∙ filled_plain items (table_of rules t).columns sample c plain)
    self_equal
    (sym (table_counted rules samples items t) ∙ fresh)
    earlier ok (passes (suc (length items))) (passes (suc (suc (length items))))
