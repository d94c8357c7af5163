-- Rising lists of the same elements are one list.
use Rattle.std.proofs.Common.{◌≡◌, List, [], ◌∷◌, map, refl, sym, subst, ◌⊎◌, inl, inr}
use Rattle.std.specs.List.{AllByRecursion}
use Rattle.std.specs.Cmp.{IsTotalOrder}
use Rattle.std.specs.declared.cmp.Ordering.{Ordering}
use Rattle.std.specs.declared.cmp.Ordering.TheVariants.{Less, Greater}
use Rattle.std.specs.List.Sorted.{IsStrictlySortedBy}
use Rattle.confluence_laws.proofs.SameTables.{PassesOn}
use Rattle.table_model.proofs.Standing.{each-map}

module _ {X K : Type 0} (key : X → K) (R : K → K → Ordering) (total : IsTotalOrder R) where
  abbrev pub Rises : List X → Type 0
  Rises [] = Unit {0}
  Rises (x ∷ xs) = AllByRecursion (λ y. R (key x) (key y) ≡ Less) xs × Rises xs

  above : (k : K) (xs : List X) → AllByRecursion (λ y. R k y ≡ Less) (map key xs) → AllByRecursion (λ y. R k (key y) ≡ Less) xs
  above k [] h = tt
  above k (x ∷ xs) h = (h.0, above k xs h.1)

  pub rises : (xs : List X) → IsStrictlySortedBy R (map key xs) → Rises xs
  unfolding IsStrictlySortedBy
  rises [] s = tt
  rises (x ∷ xs) s = (above (key x) xs s.0, rises xs s.1)

  not_both : (a b : K) → R a b ≡ Less → R b a ≡ Less → ⊥
  not_both a b e f = let turned = total.antisymm a b in let at : R a b ≡ Greater = rw f at turned in absurd cc

  not_itself : (a : K) → R a a ≡ Less → ⊥
  not_itself a e = not_both a a e e

  -- an element is the first of a list, or above it
  abbrev FromOn : X → X → Type 0
  FromOn x y = (y ≡ x) ⊎ (R (key x) (key y) ≡ Less)

  from_first : (x : X) (xs : List X) → Rises (x ∷ xs) → AllByRecursion (FromOn x) (x ∷ xs)
  from_first x xs r = (inl refl, each-map (λ y. R (key x) (key y) ≡ Less) (FromOn x) (λ y h. inr h) xs r.0)

  same_first : (x y : X) (xs ys : List X) → Rises (x ∷ xs) → Rises (y ∷ ys) → PassesOn (x ∷ xs) (y ∷ ys) → PassesOn (y ∷ ys) (x ∷ xs) → x ≡ y
  same_first x y xs ys r s a b =
      elim ((b.on (FromOn y) (from_first y ys s)).0) [
        | inl same ↦ same
        | inr over ↦ elim ((a.on (FromOn x) (from_first x xs r)).0) [
          | inl same ↦ sym same
          | inr under ↦ absurd (not_both (key x) (key y) under over)
        ]
      ]

  only_above : (P : X → Type 0) (x : X) (ys : List X) → AllByRecursion (λ y. R (key x) (key y) ≡ Less) ys → AllByRecursion (λ y. (y ≡ x) ⊎ P y) ys → AllByRecursion P ys
  only_above P x [] over h = tt
  only_above P x (y ∷ ys) over h = (
    (elim h.0 [
      | inl same ↦ absurd (not_itself (key x) (subst (λ (z : X). R (key x) (key z) ≡ Less) same over.0))
      | inr p ↦ p
    ]),
    only_above P x ys over.1 h.1,
  )

  rest_on : (x : X) (xs ys : List X) → AllByRecursion (λ y. R (key x) (key y) ≡ Less) ys → PassesOn (x ∷ xs) (x ∷ ys) → PassesOn xs ys
  rest_on x xs ys over a = record {
    on = λ P h. only_above P x ys over (a.on (λ y. (y ≡ x) ⊎ P y) (inl refl, each-map P (λ y. (y ≡ x) ⊎ P y) (λ y p. inr p) xs h)).1;
  }

  pub one_list : (xs ys : List X) → Rises xs → Rises ys → PassesOn xs ys → PassesOn ys xs → xs ≡ ys
  one_list [] [] r s a b = refl
  one_list [] (y ∷ ys) r s a b = absurd (a.on (λ z. ⊥) tt).0
  one_list (x ∷ xs) [] r s a b = absurd (b.on (λ z. ⊥) tt).0
  one_list (x ∷ xs) (y ∷ ys) r s a b =
      let first : x ≡ y = same_first x y xs ys r s a b in
      let t : Rises (x ∷ ys) = subst (λ (z : X). Rises (z ∷ ys)) (sym first) s in
      let c : PassesOn (x ∷ xs) (x ∷ ys) = subst (λ (z : X). PassesOn (x ∷ xs) (z ∷ ys)) (sym first) a in
      let d : PassesOn (x ∷ ys) (x ∷ xs) = subst (λ (z : X). PassesOn (z ∷ ys) (x ∷ xs)) (sym first) b in
      (λ i. first i ∷ one_list xs ys r.1 t.1 (rest_on x xs ys t.0 c) (rest_on x ys xs r.0 d) i)
