-- What marking the least index that is not used does to the indices.
use Rattle.std.proofs.Common.{◌≡◌, ◌⊎◌, inl, inr, ℕ, ◌+◌, ◌<◌, ◌≤◌, Bool, true, false, cond, List, length, get_or, set, sym, ap, ◌∙◌, arith, get_or-set_other, get_or-set_same}
use Rattle.std.specs.Prelude.{not, count_by}
use Rattle.std.specs.List.{position_or_len}
use Rattle.std.proofs.lemmas.Bool.{not-true, not-false}
use Rattle.std.proofs.lemmas.List.Sums.{fails_before_first, passes_at_first, sum_by-set, prefix_len-le-length, position_or_len_is}
use Rattle.std.specs.Prelude.{Some}
use Rattle.std.proofs.lemmas.Bool.Decides.{nat_tests}
use Rattle.key_index.specs.Kept.{AreIndices}
use Rattle.key_index.specs.Used.{least_unused}

-- The least index that is not used, where there is one.
pub record IsLeast (used : List Bool) (index : ℕ) : Type 0 where
  pub within : index < length used
  pub unused : get_or used index true ≡ false
  pub below : (i : ℕ) → i < index → get_or used i true ≡ true

pub is_least : (used : List Bool) (next left : ℕ) → AreIndices used next left → (next ≡ length used → ⊥) → IsLeast used next
is_least used next left are more =
    let lt : next < length used = omega (arith, are.cursor, prefix_len-le-length (λ (b : Bool). not (not b)) used) in
    record {
      within = lt;
      unused = not-true (get_or used next true) (rw are.cursor (passes_at_first not used true (omega (arith, are.cursor))));
      below = λ i below. not-false (get_or used i true) (fails_before_first not used i true (omega (arith, are.cursor)));
    }

apart : (i j : ℕ) → i < j + 1 → (i ≡ j) ⊎ (i < j)
apart i j lt = grind arith

-- Once it is used, no index up to it is unused.
pub used_up_to : (used : List Bool) (index i : ℕ) → IsLeast used index → i < index + 1 → get_or (set used index true) i true ≡ true
used_up_to used index i least lt = elim (apart i index lt) [
  | inl same ↦ ap (λ (k : ℕ). get_or (set used index true) k true) same ∙ get_or-set_same used index true true least.within
  | inr below ↦ get_or-set_other used index i true true (λ same. absurd (omega arith)) ∙ least.below i below
]

-- One less is left.
pub one_less : (used : List Bool) (index : ℕ) → IsLeast used index → count_by not (set used index true) + 1 ≡ count_by not used
one_less used index least =
    let e = sum_by-set (λ (x : Bool). cond (not x) 1 0) used index true true least.within in
    let one : ◌≡◌ {A = ℕ} (cond (not (get_or used index true)) 1 0) 1 = ap (λ (b : Bool). cond (not b) 1 0) least.unused in
    omega (arith, e, one)

-- No index before it is unused, and it is, or is behind the last one.
pub least_is : (used : List Bool) (next : ℕ) → next ≤ length used → ((i : ℕ) → i < next → get_or used i true ≡ true) → (next < length used → get_or used next true ≡ false) → next ≡ position_or_len not used
least_is used next within below unused =
    sym (position_or_len_is not used next true within (λ i lt. ap not (below i lt)) (λ lt. ap not (unused lt)))

-- It is the one that a look from the front finds.
pub least_at : (used : List Bool) (next left : ℕ) → AreIndices used next left → (next ≡ length used → ⊥) → Some next ≡ least_unused used
least_at used next left are more =
    let least = is_least used next left are more in
    let first : position_or_len not used < length used = omega (arith, are.cursor, least.within) in
    ap (λ (n : ℕ). Some n) are.cursor ∙ sym (found_first used first)
  where
    found_first : (used : List Bool) → position_or_len not used < length used → least_unused used ≡ Some (position_or_len not used)
    found_first used lt = grind (arith, nat_tests)
