-- Beginnings of one list.
use Rattle.std.proofs.Common.{◌≡◌, ◌≤◌, List, [], ◌∷◌, ◌++◌, length, drop, refl, ap, sym, ◌∙◌, arith, append_assoc}
use Rattle.std.proofs.lemmas.List.{append-nil}
use mathlib.Core.List.{IsPrefix}

module _ {A : Type 0} where
  pub prefix_self : (xs : List A) → IsPrefix xs xs
  prefix_self xs = ([], append-nil xs)

  pub prefix_nil : (xs : List A) → IsPrefix [] xs
  prefix_nil xs = (xs, refl)

  pub prefix_more : (xs ys new : List A) → IsPrefix xs ys → IsPrefix xs (ys ++ new)
  prefix_more xs ys new p = (p.0 ++ new, sym (append_assoc xs p.0 new) ∙ ap (λ w. w ++ new) p.1)

  -- what is behind a beginning of a list that grew
  pub drop_front : (xs ys new : List A) → IsPrefix xs ys → drop (length xs) (ys ++ new) ≡ drop (length xs) ys ++ new
  drop_front [] ys new p = refl
  drop_front (x ∷ xs) [] new p = absurd (cc (p.1))
  drop_front (x ∷ xs) (y ∷ ys) new p = drop_front xs ys new (p.0, cc (p.1))

  -- of two beginnings of one list the shorter begins the longer
  pub prefix_shorter : (xs ys zs : List A) → IsPrefix xs zs → IsPrefix ys zs → length xs ≤ length ys → IsPrefix xs ys
  prefix_shorter [] ys zs p q le = (ys, refl)
  prefix_shorter (x ∷ xs) [] zs p q le = absurd (omega arith)
  prefix_shorter (x ∷ xs) (y ∷ ys) [] p q le = absurd (cc (p.1))
  prefix_shorter (x ∷ xs) (y ∷ ys) (z ∷ zs) p q le =
      let heads : x ≡ y = cc (p.1, q.1) in
      let rest = prefix_shorter xs ys zs (p.0, cc (p.1)) (q.0, cc (q.1)) (omega arith) in
      (rest.0, cc (heads, rest.1))
