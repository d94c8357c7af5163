-- One more member of a list, from either end.
use Rattle.std.proofs.Common.{◌≡◌, ◌⊎◌, inl, inr, ℕ, zero, suc, ◌<◌, ◌+◌, List, [], ◌∷◌, ◌++◌, length, take, drop, map, get_or, ap, ◌∙◌, arith, All, Contains, Some, slice_get}
use Rattle.std.specs.List.{AllByRecursion}
use Rattle.std.proofs.lemmas.List.{map-append, take_more}
use Rattle.std.proofs.lemmas.List.Elements.{All-cons, All-contains, All-head, All-nil, All-tail}
use Rattle.std.proofs.lemmas.Option.{get_or_from_slice_get, slice_get_within}

-- the first of a list, and one more
pub take_next : {X Y : Type 0} (f : X → Y) (xs : List X) (i : ℕ) (x : X) → slice_get xs i ≡ Some x → map f (take (i + 1) xs) ≡ map f (take i xs) ++ f x ∷ []
take_next f xs i x at =
    ap (map f) (take_more xs i x (slice_get_within xs i x at) ∙ ap (λ y. take i xs ++ y ∷ []) (get_or_from_slice_get xs i x x at)) ∙ map-append f (take i xs) (x ∷ [])

-- the rest of a list begins with the next
pub drop_next : {X : Type 0} (xs : List X) (i : ℕ) (x : X) → slice_get xs i ≡ Some x → drop i xs ≡ x ∷ drop (suc i) xs
drop_next [] i x at = absurd cc
drop_next (y ∷ ys) zero x at = let is : y ≡ x = cc in ap (λ z. z ∷ ys) is
drop_next (y ∷ ys) (suc i) x at = drop_next ys i x at

pub cons_cases : {X : Type 0} (x : X) (xs : List X) (e : X) → Contains (x ∷ xs) e → (x ≡ e) ⊎ Contains xs e
cons_cases x xs e c = at c.0 c.1 c.2
  where
    at : (k : ℕ) → k < length (x ∷ xs) → get_or (x ∷ xs) k e ≡ e → (x ≡ e) ⊎ Contains xs e
    at zero low is = inl is
    at (suc k) low is = inr (k, omega arith, is)

pub held_at : {X : Type 0} (xs : List X) (k : ℕ) (x : X) → slice_get xs k ≡ Some x → Contains xs x
held_at xs k x at = (k, slice_get_within xs k x at, get_or_from_slice_get xs k x x at)

pub All-append : {X : Type 0} (P : X → Type 0) (xs ys : List X) → All P xs → All P ys → All P (xs ++ ys)
All-append P [] ys a b = b
All-append P (x ∷ xs) ys a b = All-cons P x (xs ++ ys) (All-head P x xs a) (All-append P xs ys (All-tail P x xs a) b)

-- what holds of each of a batch holds of each that is from it
pub all_from : {X : Type 0} (P : X → Type 0) (batch added : List X) → All P batch → AllByRecursion (Contains batch) added → All P added
all_from P batch [] all from = All-nil P
all_from P batch (x ∷ xs) all from = All-cons P x xs (All-contains P batch x all from.0) (all_from P batch xs all from.1)
