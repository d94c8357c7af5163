-- Permutations weigh the same.
use Rattle.std.proofs.Common.{◌≡◌, List, ◌∷◌, refl, sym, ◌∙◌, subst, arith, IsPermutation}
use Rattle.std.proofs.lemmas.List.Recursion.{is_sum_by}
use Rattle.std.proofs.lemmas.List.Sorted.{IsPermutation-refl, IsPermutation-swap, sum_by-IsPermutation}
use Rattle.table_model.proofs.Alike.{Alike, weight}

pub Alike-permuted : {X : Type 0} (xs ys : List X) → IsPermutation xs ys → Alike xs ys
Alike-permuted {X} xs ys p = record { weighs = λ w. is_sum_by (weight w) w refl (λ x zs. refl) xs ∙ sym (sum_by-IsPermutation w xs ys p) ∙ sym (is_sum_by (weight w) w refl (λ x zs. refl) ys) }

pub permuted_swap : {X : Type 0} (x y : X) (zs : List X) → IsPermutation (x ∷ y ∷ zs) (y ∷ x ∷ zs)
permuted_swap x y zs = IsPermutation-swap (x ∷ y ∷ zs) (y ∷ x ∷ zs) 0 1 (omega arith) (omega arith) refl

pub permuted_same : {X : Type 0} (xs ys : List X) → xs ≡ ys → IsPermutation xs ys
permuted_same xs ys e = subst (IsPermutation xs) e (IsPermutation-refl xs)
