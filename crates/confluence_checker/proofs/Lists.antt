-- Steps along lists.
use Rattle.std.proofs.Common.{◌≡◌, ℕ, zero, suc, ◌+◌, ◌<◌, ◌≤◌, Bool, true, false, ◌||◌, cond, List, [], ◌∷◌, ◌++◌, length, drop, get_or, reverse, filter, refl, sym, ap, ◌∙◌, add-one, arith, drop-cons}

-- what is left of a list
pub drop_next : {X : Type 0} (xs : List X) (i : ℕ) (x : X) → i < length xs → x ≡ get_or xs i x → drop i xs ≡ x ∷ drop (i + 1) xs
drop_next xs i x h e = rw (add-one, drop-cons xs i x) (ap (λ y. y ∷ drop (suc i) xs) (sym e))

-- past the end of a list nothing is left
pub nothing_left : {X : Type 0} (xs : List X) (i : ℕ) → length xs ≤ i → drop i xs ≡ []
nothing_left [] zero h = refl
nothing_left [] (suc i) h = refl
nothing_left (x ∷ xs) zero h = absurd (omega arith)
nothing_left (x ∷ xs) (suc i) h = nothing_left xs i (omega arith)

cond_append : {X : Type 0} (b : Bool) (x : X) (all front ys : List X) → all ≡ front ++ ys → cond b (x ∷ all) all ≡ cond b (x ∷ front) front ++ ys
cond_append true x all front ys h = ap (λ l. x ∷ l) h
cond_append false x all front ys h = h

pub filter_append : {X : Type 0} (p : X → Bool) (xs ys : List X) → filter p (xs ++ ys) ≡ filter p xs ++ filter p ys
filter_append p [] ys = refl
filter_append p (x ∷ xs) ys = cond_append (p x) x (filter p (xs ++ ys)) (filter p xs) (filter p ys) (filter_append p xs ys)
