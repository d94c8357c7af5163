-- One more of each replica.
use Rattle.std.proofs.Common.{◌≡◌, ℕ, zero, suc, List, [], ◌∷◌, ◌++◌, length, Some, subst}
use Rattle.std.specs.Prelude.{slice_get}

pub one_more : {S A : Type 0} (IsOf : S → A → Type 0) (sites : List S) (all : List A) (a : A) → ((r : ℕ) (site : S) (b : A) → slice_get sites r ≡ Some site → slice_get all r ≡ Some b → IsOf site b)
    → ((site : S) → slice_get sites (length all) ≡ Some site → IsOf site a) → (r : ℕ) (site : S) (b : A) → slice_get sites r ≡ Some site → slice_get (all ++ a ∷ []) r ≡ Some b → IsOf site b
one_more IsOf sites [] a before here zero site b s t = let same : a ≡ b = cc in subst (IsOf site) same (here site s)
one_more IsOf sites [] a before here (suc r) site b s t = absurd cc
one_more IsOf [] (x ∷ all) a before here zero site b s t = absurd cc
one_more IsOf [] (x ∷ all) a before here (suc r) site b s t = absurd cc
one_more IsOf (y ∷ sites) (x ∷ all) a before here zero site b s t = before zero site b s t
one_more IsOf (y ∷ sites) (x ∷ all) a before here (suc r) site b s t = one_more IsOf sites all a (λ k. before (suc k)) here r site b s t
