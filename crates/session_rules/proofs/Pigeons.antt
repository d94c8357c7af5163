-- Distinct ids that are among others are no more than those.
use Rattle.std.proofs.Common.{◌≡◌, inl, inr, suc, ◌+◌, ◌<◌, ◌≤◌, true, false, not, cond, List, [], ◌∷◌, length, filter, refl, sym, subst, ◌∙◌, arith}
use Rattle.std.specs.List.{AllByRecursion}
use Rattle.std.specs.List.Sorted.{IsStrictlySortedBy}
use Rattle.std.specs.declared.cmp.Ordering.TheVariants.{Less}
use Rattle.update_model.specs.declared.update_id.UpdateId.{UpdateId}
use Rattle.update_model.specs.Entry.{same_id, id_cmp}
use Rattle.update_model.specs.Graph.{has}
use Rattle.update_model.proofs.Ids.{id_from_same, same_id-refl, same_id-symm}
use Rattle.session_rules.specs.Steps.{Joins}
use Rattle.session_rules.proofs.Words.{or_cases, or_left, or_right, is_either}

-- no id stands twice
abbrev pub AreDistinct : List UpdateId → Type 0
AreDistinct [] = Unit {0}
AreDistinct (x ∷ xs) = (has xs x ≡ false) × AreDistinct xs

abbrev pub without : UpdateId → List UpdateId → List UpdateId
without x ys = filter (λ y. not (same_id y x)) ys

shorter : (x : UpdateId) (ys : List UpdateId) → length (without x ys) ≤ length ys
shorter x [] = omega arith
shorter x (y ∷ ys) = let rest = shorter x ys in elim (same_id y x) as (λ b. length (cond (not b) (y ∷ without x ys) (without x ys)) ≤ suc (length ys)) [
  | true ↦ omega arith
  | false ↦ omega arith
]

one_less : (x : UpdateId) (ys : List UpdateId) → has ys x ≡ true → length (without x ys) < length ys
one_less x [] h = absurd cc
one_less x (y ∷ ys) h = elim (is_either (same_id y x)) [
  | inl is ↦ let rest = shorter x ys in rw is (omega arith)
  | inr other ↦ let there : has ys x ≡ true = rw (same_id-symm x y ∙ other) at h in let rest = one_less x ys there in rw other (omega arith)
]

stays : (x z : UpdateId) (ys : List UpdateId) → has ys z ≡ true → same_id z x ≡ false → has (without x ys) z ≡ true
stays x z [] h other = absurd cc
stays x z (y ∷ ys) h other = elim (or_cases (same_id z y) (has ys z) h) [
  | inl is ↦
      let same : y ≡ z = sym (id_from_same z y is) in
      let kept : same_id y x ≡ false = subst (λ (i : UpdateId). same_id i x ≡ false) (sym same) other in
      rw kept (or_left (same_id z y) (has (without x ys) z) is)
  | inr later ↦ let rest = stays x z ys later other in elim (is_either (same_id y x)) [
    | inl gone ↦ rw gone rest
    | inr kept ↦ rw kept (or_right (same_id z y) (has (without x ys) z) rest)
  ]
]

has_not : (x z : UpdateId) (xs : List UpdateId) → has xs x ≡ false → has xs z ≡ true → same_id z x ≡ false
has_not x z xs none there = elim (is_either (same_id z x)) [
  | inl is ↦ absurd (let also : has xs x ≡ true = subst (λ (i : UpdateId). has xs i ≡ true) (id_from_same z x is) there in cc)
  | inr other ↦ other
]

pub pigeons : (xs ys : List UpdateId) → AreDistinct xs → ((id : UpdateId) → has xs id ≡ true → has ys id ≡ true) → length xs ≤ length ys
pigeons [] ys d f = omega arith
pigeons (x ∷ xs) ys d f =
    let rest = pigeons xs (without x ys) d.1 (λ id h. stays x id ys (f id (or_right (same_id id x) (has xs id) h)) (has_not x id xs d.0 h)) in
    let fewer = one_less x ys (f x (or_left (same_id x x) (has xs x) (same_id-refl x))) in
    omega arith

not_above : (x : UpdateId) (xs : List UpdateId) → AllByRecursion (λ y. id_cmp x y ≡ Less) xs → has xs x ≡ false
not_above x [] above = refl
not_above x (y ∷ ys) above = rw above.0 (not_above x ys above.1)

pub rising_distinct : (xs : List UpdateId) → IsStrictlySortedBy id_cmp xs → AreDistinct xs
unfolding IsStrictlySortedBy
rising_distinct [] s = tt
rising_distinct (x ∷ xs) s = (not_above x xs s.0, rising_distinct xs s.1)

-- the set of both is no shorter, and longer where something is new
pub joins_longer : (old new both : List UpdateId) → IsStrictlySortedBy id_cmp old → Joins old new both → length old ≤ length both
joins_longer old new both rising j = pigeons old both (rising_distinct old rising) (λ id h. j.exact id ∙ or_left (has old id) (has new id) h)

pub joins_more : (old both : List UpdateId) (id : UpdateId) (ids : List UpdateId) → IsStrictlySortedBy id_cmp old → Joins old (id ∷ ids) both → has old id ≡ false → length old + 1 ≤ length both
joins_more old both id ids rising j new =
    let more = pigeons (id ∷ old) both (new, rising_distinct old rising) (λ i h. j.exact i ∙ elim (or_cases (same_id i id) (has old i) h) [
      | inl is ↦ or_right (has old i) (has (id ∷ ids) i) (or_left (same_id i id) (has ids i) is)
      | inr was ↦ or_left (has old i) (has (id ∷ ids) i) was
    ]) in
    omega arith
