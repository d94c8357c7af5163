-- What a row names, column by column.
use Rattle.tuple_state.specs.declared.shape.Shape.{Shape}
use Rattle.std.proofs.Common.{◌≡◌, ◌⊎◌, ℕ, zero, suc, ◌+◌, ◌<◌, ◌≤◌, List, [], ◌∷◌, length, get_or, drop, refl, sym, ap, Some, arith, inl, inr}
use Rattle.std.specs.Prelude.{slice_get}
use Rattle.std.proofs.lemmas.Option.{slice_get_past}
use Rattle.tuple_state.specs.Parents.{columns_at, columns_in}

pub slice_get_from : {X : Type 0} (xs : List X) (k : ℕ) (x : X) → k < length xs → x ≡ get_or xs k x → slice_get xs k ≡ Some x
slice_get_from [] k x below is = absurd (omega (arith, below))
slice_get_from (y ∷ xs) zero x below is = ap Some (sym is)
slice_get_from (y ∷ xs) (suc k) x below is = slice_get_from xs k x (omega (arith, below)) is

pub slice_get_below : {X : Type 0} (xs : List X) (k : ℕ) (x : X) → slice_get xs k ≡ Some x → k < length xs
slice_get_below [] k x h = absurd (cc)
slice_get_below (y ∷ xs) zero x h = omega arith
slice_get_below (y ∷ xs) (suc k) x h = let rest = slice_get_below xs k x h in omega (arith, rest)

pub length_drop : {X : Type 0} (n : ℕ) (xs : List X) → (length (drop n xs) + n ≡ length xs) ⊎ (drop n xs ≡ [])
length_drop zero xs = inl (omega arith)
length_drop (suc n) [] = inr refl
length_drop (suc n) (x ∷ xs) = elim (length_drop n xs) [ inl e ↦ inl (omega (arith, e)) | inr e ↦ inr e ]

pub columns_past : (shapes : List Shape) (number : ℕ) → length shapes ≤ number → columns_at shapes number ≡ []
columns_past shapes number past = ap columns_in (slice_get_past shapes number past)
