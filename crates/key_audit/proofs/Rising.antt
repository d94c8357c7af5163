-- Rising lists with the same elements are one.
use Rattle.std.proofs.Common.{◌≡◌, ◌⊎◌, inl, inr, zero, suc, List, [], ◌∷◌, refl, sym, subst, Contains, arith}
use Rattle.std.specs.Cmp.{IsTotalOrder}
use Rattle.std.specs.List.{AllByRecursion}
use Rattle.std.specs.List.Sorted.{IsStrictlySortedBy}
use Rattle.std.specs.declared.cmp.Ordering.{Ordering}
use Rattle.std.specs.declared.cmp.Ordering.TheVariants.{Less, Greater}

module _ {X : Type 0} where
  pub one_of : (x y : X) (xs : List X) → Contains (x ∷ xs) y → (x ≡ y) ⊎ Contains xs y
  one_of x y xs (zero, lt, is) = inl is
  one_of x y xs (suc k, lt, is) = inr (k, omega (arith, lt), is)

  pub here : (x : X) (xs : List X) → Contains (x ∷ xs) x
  here x xs = (0, omega arith, refl)

  pub there : (x y : X) (xs : List X) → Contains xs y → Contains (x ∷ xs) y
  there x y xs has = (suc has.0, omega (arith, has.1), has.2)

  pub nobody : (y : X) → Contains [] y → ⊥
  nobody y has = omega (arith, has.1)

  each_at : (P : X → Type 0) (xs : List X) (y : X) → AllByRecursion P xs → Contains xs y → P y
  each_at P [] y are has = absurd (nobody y has)
  each_at P (x ∷ xs) y are has = elim (one_of x y xs has) [
    | inl same ↦ subst P same are.0
    | inr later ↦ each_at P xs y are.1 later
  ]

  module _ (R : X → X → Ordering) (total : IsTotalOrder R) where
    both_less : (x y : X) → R x y ≡ Less → R y x ≡ Less → ⊥
    both_less x y e f = let turned = total.antisymm x y in let at : R x y ≡ Greater = rw f at turned in absurd cc

    -- of two rising lists that share their elements the first ones are one
    same_first : (x y : X) (xs ys : List X) → AllByRecursion (λ z. R x z ≡ Less) xs → AllByRecursion (λ z. R y z ≡ Less) ys → Contains (y ∷ ys) x → Contains (x ∷ xs) y → x ≡ y
    same_first x y xs ys over under has held = elim (one_of y x ys has) [
      | inl same ↦ sym same
      | inr later ↦ elim (one_of x y xs held) [
        | inl same ↦ same
        | inr behind ↦ absurd (both_less x y (each_at (λ z. R x z ≡ Less) xs y over behind) (each_at (λ z. R y z ≡ Less) ys x under later))
      ]
    ]

    -- what stands behind a first one that is no later one
    behind : (x z : X) (xs ys : List X) → AllByRecursion (λ w. R x w ≡ Less) xs → Contains xs z → Contains (x ∷ ys) z → Contains ys z
    behind x z xs ys over has held = elim (one_of x z ys held) [
      | inl same ↦ (let less : R x z ≡ Less = each_at (λ w. R x w ≡ Less) xs z over has in
          let itself : R x x ≡ Less = subst (λ (w : X). R x w ≡ Less) (sym same) less in absurd (both_less x x itself itself))
      | inr later ↦ later
    ]

    pub one_list : (xs ys : List X) → IsStrictlySortedBy R xs → IsStrictlySortedBy R ys → ((z : X) → Contains xs z → Contains ys z) → ((z : X) → Contains ys z → Contains xs z) → xs ≡ ys
    unfolding IsStrictlySortedBy
    one_list [] [] s t to from = refl
    one_list [] (y ∷ ys) s t to from = absurd (nobody y (from y (here y ys)))
    one_list (x ∷ xs) [] s t to from = absurd (nobody x (to x (here x xs)))
    one_list (x ∷ xs) (y ∷ ys) s t to from =
        let first : x ≡ y = same_first x y xs ys s.0 t.0 (to x (here x xs)) (from y (here y ys)) in
        let under : AllByRecursion (λ w. R x w ≡ Less) ys = subst (λ (z : X). AllByRecursion (λ w. R z w ≡ Less) ys) (sym first) t.0 in
        let rest : xs ≡ ys = one_list xs ys s.1 t.1
        (λ z has. behind x z xs ys s.0 has (subst (λ (w : X). Contains (w ∷ ys) z) (sym first) (to z (there x z xs has))))
        (λ z has. behind x z ys xs under has (from z (there y z ys has))) in
        λ i. first i ∷ rest i
