-- Lists of which a place is replaced.
use Rattle.std.proofs.Common.{◌≡◌, ℕ, suc, ◌+◌, ◌<◌, List, [], ◌∷◌, ◌++◌, length, map, take, drop, get_or, set, refl, sym, ap, ap₂, ◌∙◌, arith, add-one, append_assoc}
use Rattle.std.proofs.lemmas.List.{length-map, length-take-le, map-append, take-append-drop, take_more}
use Rattle.std.proofs.Math.Seq.{drop-append_seam, drop-cons, take-append_seam}
use Rattle.std.specs.Prelude.{insert, remove}

-- the element behind a front
pub set_seam : {X : Type 0} (front : List X) (x y : X) (back : List X) → set (front ++ x ∷ back) (length front) y ≡ front ++ y ∷ back
set_seam [] x y back = refl
set_seam (z ∷ front) x y back = ap (λ (xs : List _). z ∷ xs) (set_seam front x y back)

get_seam : {X : Type 0} (front : List X) (x d : X) (back : List X) → get_or (front ++ x ∷ back) (length front) d ≡ x
get_seam [] x d back = refl
get_seam (z ∷ front) x d back = get_seam front x d back

module _ {X : Type 0} (f : X → X) (xs : List X) (i : ℕ) (d : X) (low : i < length xs) where
  mapped_long : length (map f (take i xs)) ≡ i
  mapped_long = length-map (take i xs) f ∙ length-take-le i xs (omega arith)

  rest_is : map f (take i xs) ++ drop i xs ≡ map f (take i xs) ++ get_or xs i d ∷ drop (suc i) xs
  rest_is = ap (λ (ys : List X). map f (take i xs) ++ ys) (drop-cons xs i d low)

  -- what stands next in a list that was mapped so far
  pub mapped_next : get_or (map f (take i xs) ++ drop i xs) i d ≡ get_or xs i d
  mapped_next =
      ap (λ (ys : List X). get_or ys i d) rest_is ∙ ap (λ n. get_or (map f (take i xs) ++ get_or xs i d ∷ drop (suc i) xs) n d) (sym mapped_long)
      ∙ get_seam (map f (take i xs)) (get_or xs i d) d (drop (suc i) xs)

  -- one more is mapped
  pub mapped_more : set (map f (take i xs) ++ drop i xs) i (f (get_or xs i d)) ≡ map f (take (i + 1) xs) ++ drop (i + 1) xs
  mapped_more =
      ap (λ (ys : List X). set ys i (f (get_or xs i d))) rest_is
      ∙ ap (λ n. set (map f (take i xs) ++ get_or xs i d ∷ drop (suc i) xs) n (f (get_or xs i d))) (sym mapped_long)
      ∙ set_seam (map f (take i xs)) (get_or xs i d) (f (get_or xs i d)) (drop (suc i) xs)
      ∙ sym (append_assoc (map f (take i xs)) (f (get_or xs i d) ∷ []) (drop (suc i) xs))
      ∙ ap₂ (λ (ys zs : List X). ys ++ zs) (sym (map-append f (take i xs) (get_or xs i d ∷ [])) ∙ ap (map f) (sym (take_more xs i d low))) (ap (λ n. drop n xs) (sym (add-one i)))

-- an element that is taken out and put in anew
pub insert_removed : {X : Type 0} (xs : List X) (i : ℕ) (x d : X) → i < length xs → insert (remove xs i) i x ≡ set xs i x
insert_removed xs i x d low =
    let front = take i xs in
    let back = drop (suc i) xs in
    let long : length front ≡ i = length-take-le i xs (omega arith) in
    let whole : front ++ get_or xs i d ∷ back ≡ xs = ap (λ (ys : List _). front ++ ys) (sym (drop-cons xs i d low)) ∙ take-append-drop i xs in
    let left : set xs i x ≡ front ++ x ∷ back = ap₂ (λ (ys : List _) (n : ℕ). set ys n x) (sym whole) (sym long) ∙ set_seam front (get_or xs i d) x back in
    let first : take i (front ++ back) ≡ front = ap (λ n. take n (front ++ back)) (sym long) ∙ take-append_seam front back in
    let last : drop i (front ++ back) ≡ back = ap (λ n. drop n (front ++ back)) (sym long) ∙ drop-append_seam front back in
    ap₂ (λ (ys zs : List _). ys ++ x ∷ zs) first last ∙ sym left
