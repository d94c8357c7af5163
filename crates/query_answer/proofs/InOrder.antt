-- Lists that are put in order one by one.
use Rattle.std.proofs.Common.{◌≡◌, ◌∙◌, ℕ, zero, suc, ◌+◌, ◌<◌, ◌≤◌, Bool, true, false, cond, List, [], ◌∷◌, ◌++◌, append-nil, append_assoc, length, get_or, take, refl, sym, ap, subst, arith}
use Rattle.std.specs.Cmp.{IsTotalOrder}
use Rattle.std.specs.List.{AllByRecursion}
use Rattle.std.specs.List.Sorted.{IsPermutation, IsSorted}
use Rattle.std.specs.Ordering.{is_lt, is_gt, ordering_reverse}
use Rattle.std.specs.declared.cmp.Ordering.{Ordering}
use Rattle.std.specs.declared.cmp.Ordering.TheVariants.{Less, Equal, Greater}
use Rattle.std.proofs.lemmas.Cmp.{tied_itself, upto}
use Rattle.query_answer.specs.InOrder.{put, put_all}
use Rattle.std.proofs.lemmas.List.{take-take}
use Rattle.std.proofs.lemmas.List.Sorted.{IsPermutation-refl, IsPermutation-cons, IsPermutation-middle, IsPermutation-append_left, IsPermutation-sym, IsPermutation-trans}

gt_of_lt : (o : Ordering) → is_lt o ≡ is_gt (ordering_reverse o)
gt_of_lt Less = refl
gt_of_lt Equal = refl
gt_of_lt Greater = refl

gt_below : (o : Ordering) → is_lt o ≡ true → is_gt o ≡ false
gt_below Less e = refl
gt_below Equal e = absurd cc
gt_below Greater e = absurd cc

module _ {X : Type 0} (R : X → X → Ordering) (total : IsTotalOrder R) where
  pub put_push : (sorted xs : List X) (x : X) → put_all R sorted (xs ++ x ∷ []) ≡ put R x (put_all R sorted xs)
  put_push sorted [] x = refl
  put_push sorted (y ∷ ys) x = put_push (put R y sorted) ys x

  -- ---- the same elements

  put_permutes : (x : X) (ys : List X) → IsPermutation (put R x ys) (x ∷ ys)
  put_permutes x [] = IsPermutation-refl (x ∷ [])
  put_permutes x (y ∷ ys) = step (is_lt (R x y)) (put_permutes x ys)
    where
      step : (b : Bool) → IsPermutation (put R x ys) (x ∷ ys) → IsPermutation (cond b (x ∷ y ∷ ys) (y ∷ put R x ys)) (x ∷ y ∷ ys)
      step true p = IsPermutation-refl (x ∷ y ∷ ys)
      step false p = IsPermutation-trans (y ∷ put R x ys) (y ∷ x ∷ ys) (x ∷ y ∷ ys) (IsPermutation-cons y (put R x ys) (x ∷ ys) p) (IsPermutation-middle (y ∷ []) x ys)

  pub put_all_permutes : (sorted xs : List X) → IsPermutation (put_all R sorted xs) (sorted ++ xs)
  put_all_permutes sorted [] = subst (IsPermutation sorted) (sym (append-nil sorted)) (IsPermutation-refl sorted)
  put_all_permutes sorted (x ∷ xs) =
      IsPermutation-trans (put_all R (put R x sorted) xs) (put R x sorted ++ xs) (sorted ++ x ∷ xs) (put_all_permutes (put R x sorted) xs)
      (IsPermutation-trans (put R x sorted ++ xs) ((x ∷ sorted) ++ xs) (sorted ++ x ∷ xs) (IsPermutation-append_left xs (put R x sorted) (x ∷ sorted) (put_permutes x sorted))
      (IsPermutation-sym (sorted ++ x ∷ xs) (x ∷ (sorted ++ xs)) (IsPermutation-middle sorted x xs)))

  -- ---- in order

  -- x is not above any of these
  abbrev pub IsUnder : X → List X → Type 0
  IsUnder x ys = AllByRecursion (λ y. is_gt (R x y) ≡ false) ys

  abbrev pub Climbs : List X → Type 0
  Climbs [] = Unit {0}
  Climbs (x ∷ xs) = IsUnder x xs × Climbs xs

  lower : (x y : X) (ys : List X) → is_gt (R x y) ≡ false → IsUnder y ys → IsUnder x ys
  lower x y [] e h = tt
  lower x y (z ∷ ys) e h = (upto total x y z e h.0, lower x y ys e h.1)

  under_put : (x y : X) (ys : List X) → is_gt (R y x) ≡ false → IsUnder y ys → IsUnder y (put R x ys)
  under_put x y [] e h = (e, tt)
  under_put x y (z ∷ ys) e h = step (is_lt (R x z)) (under_put x y ys e h.1)
    where
      step : (b : Bool) → IsUnder y (put R x ys) → IsUnder y (cond b (x ∷ z ∷ ys) (z ∷ put R x ys))
      step true p = (e, h)
      step false p = (h.0, p)

  put_climbs : (x : X) (ys : List X) → Climbs ys → Climbs (put R x ys)
  put_climbs x [] h = (tt, tt)
  put_climbs x (y ∷ ys) h = step (is_lt (R x y)) refl (put_climbs x ys h.1)
    where
      step : (b : Bool) → is_lt (R x y) ≡ b → Climbs (put R x ys) → Climbs (cond b (x ∷ y ∷ ys) (y ∷ put R x ys))
      step true e p = let low = gt_below (R x y) e in ((low, lower x y ys low h.0), h)
      step false e p =
          let low : is_gt (R y x) ≡ false = ap is_gt (total.antisymm y x) ∙ sym (gt_of_lt (R x y)) ∙ e in
          (under_put x y ys low h.0, p)

  pub put_all_climbs : (sorted xs : List X) → Climbs sorted → Climbs (put_all R sorted xs)
  put_all_climbs sorted [] h = h
  put_all_climbs sorted (x ∷ xs) h = put_all_climbs (put R x sorted) xs (put_climbs x sorted h)

  at_place : (P : X → Type 0) (xs : List X) (k : ℕ) (d : X) → AllByRecursion P xs → k < length xs → P (get_or xs k d)
  at_place P [] k d h low = absurd (omega arith)
  at_place P (x ∷ xs) zero d h low = h.0
  at_place P (x ∷ xs) (suc k) d h low = at_place P xs k d h.1 (omega arith)

  climbs_next : (xs : List X) → Climbs xs → (k : ℕ) (d : X) → k + 1 < length xs → is_lt (R (get_or xs (k + 1) d) (get_or xs k d)) ≡ false
  climbs_next [] h k d low = absurd (omega arith)
  climbs_next (x ∷ xs) h zero d low =
      let y = get_or xs 0 d in
      gt_of_lt (R y x) ∙ ap is_gt (sym (total.antisymm x y)) ∙ at_place (λ z. is_gt (R x z) ≡ false) xs 0 d h.0 (omega arith)
  climbs_next (x ∷ xs) h (suc k) d low =
      let more : suc k + 1 ≡ suc (k + 1) = omega arith in
      let inner : k + 1 < length xs = omega arith in
      rw more (climbs_next xs h.1 k d inner)

  pub climbs_sorted : (xs : List X) → Climbs xs → IsSorted R xs
  climbs_sorted xs h = λ k d low high. climbs_next xs h k d high

  -- ---- the first few

  -- one more is in the first few where it is among those and itself
  pub take_put : (n : ℕ) (x : X) (ys : List X) → take n (put R x ys) ≡ take n (put R x (take n ys))
  take_put zero x ys = refl
  take_put (suc n) x [] = refl
  take_put (suc n) x (y ∷ ys) = step n (is_lt (R x y)) (take_put n x ys)
    where
      early : (m : ℕ) → take m (y ∷ ys) ≡ take m (y ∷ take m ys)
      early zero = refl
      early (suc m) = ap (λ (zs : List X). y ∷ zs) (sym (take-take m (suc m) ys (omega arith)))

      step : (m : ℕ) (b : Bool) → take m (put R x ys) ≡ take m (put R x (take m ys)) → take (suc m) (cond b (x ∷ y ∷ ys) (y ∷ put R x ys)) ≡ take (suc m) (cond b (x ∷ y ∷ take m ys) (y ∷ put R x (take m ys)))
      step m true p = ap (λ (zs : List X). x ∷ zs) (early m)
      step m false p = ap (λ (zs : List X). y ∷ zs) p

  -- one that none of the first few is above is not among them
  pub take_over : (n : ℕ) (x : X) (ys : List X) → n ≤ length ys → AllByRecursion (λ y. is_lt (R x y) ≡ false) (take n ys) → take n (put R x ys) ≡ take n ys
  take_over zero x ys few h = refl
  take_over (suc n) x [] few h = absurd (omega arith)
  take_over (suc n) x (y ∷ ys) few h =
      ap (λ (b : Bool). take (suc n) (cond b (x ∷ y ∷ ys) (y ∷ put R x ys))) h.0 ∙ ap (λ (zs : List X). y ∷ zs) (take_over n x ys (omega arith) h.1)

  -- ---- lists that are in order already

  put_last : (x : X) (ys : List X) → AllByRecursion (λ y. is_gt (R y x) ≡ false) ys → put R x ys ≡ ys ++ x ∷ []
  put_last x [] h = refl
  put_last x (y ∷ ys) h =
      let over : is_lt (R x y) ≡ false = gt_of_lt (R x y) ∙ ap is_gt (sym (total.antisymm y x)) ∙ h.0 in
      ap (λ (b : Bool). cond b (x ∷ y ∷ ys) (y ∷ put R x ys)) over ∙ ap (λ (zs : List X). y ∷ zs) (put_last x ys h.1)

  under_mid : (y : X) (front : List X) (x : X) (back : List X) → IsUnder y (front ++ x ∷ back) → is_gt (R y x) ≡ false
  under_mid y [] x back h = h.0
  under_mid y (z ∷ front) x back h = under_mid y front x back h.1

  all_before : (front : List X) (x : X) (back : List X) → Climbs (front ++ x ∷ back) → AllByRecursion (λ y. is_gt (R y x) ≡ false) front
  all_before [] x back h = tt
  all_before (y ∷ front) x back h = (under_mid y front x back h.0, all_before front x back h.1)

  put_all_climbing : (front back : List X) → Climbs (front ++ back) → put_all R front back ≡ front ++ back
  put_all_climbing front [] h = sym (append-nil front)
  put_all_climbing front (x ∷ back) h =
      let more : (front ++ x ∷ []) ++ back ≡ front ++ x ∷ back = append_assoc front (x ∷ []) back in
      ap (λ (sorted : List X). put_all R sorted back) (put_last x front (all_before front x back h))
      ∙ put_all_climbing (front ++ x ∷ []) back (subst Climbs (sym more) h) ∙ more

  pub climbing_in_order : (xs : List X) → Climbs xs → put_all R [] xs ≡ xs
  climbing_in_order xs h = put_all_climbing [] xs h

  under_take : (y : X) (n : ℕ) (xs : List X) → IsUnder y xs → IsUnder y (take n xs)
  under_take y zero xs h = tt
  under_take y (suc n) [] h = tt
  under_take y (suc n) (x ∷ xs) h = (h.0, under_take y n xs h.1)

  pub climbs_take : (n : ℕ) (xs : List X) → Climbs xs → Climbs (take n xs)
  climbs_take zero xs h = tt
  climbs_take (suc n) [] h = tt
  climbs_take (suc n) (x ∷ xs) h = (under_take x n xs h.0, climbs_take n xs h.1)

  -- ---- a bound of the first few

  -- none of these is above x
  abbrev pub AreUpTo : X → List X → Type 0
  AreUpTo x ys = AllByRecursion (λ y. is_gt (R y x) ≡ false) ys

  up_to_take : (x : X) (n : ℕ) (ys : List X) → AreUpTo x ys → AreUpTo x (take n ys)
  up_to_take x zero ys h = tt
  up_to_take x (suc n) [] h = tt
  up_to_take x (suc n) (y ∷ ys) h = (h.0, up_to_take x n ys h.1)

  shorter : (x : X) (m : ℕ) (ys : List X) → AreUpTo x (take (suc m) ys) → AreUpTo x (take m ys)
  shorter x zero ys h = tt
  shorter x (suc m) [] h = tt
  shorter x (suc m) (y ∷ ys) h = (h.0, shorter x m ys h.1)

  pub up_to_put : (b : X) (n : ℕ) (x : X) (ys : List X) → n ≤ length ys → AreUpTo b (take n ys) → AreUpTo b (take n (put R x ys))
  up_to_put b zero x ys few h = tt
  up_to_put b (suc n) x [] few h = absurd (omega arith)
  up_to_put b (suc n) x (y ∷ ys) few h = step (is_lt (R x y)) refl (up_to_put b n x ys (omega arith) h.1)
    where
      step : (c : Bool) → is_lt (R x y) ≡ c → AreUpTo b (take n (put R x ys)) → AreUpTo b (take (suc n) (cond c (x ∷ y ∷ ys) (y ∷ put R x ys)))
      step true e p = (upto total x y b (gt_below (R x y) e) h.0, shorter b n (y ∷ ys) h)
      step false e p = (h.0, p)

  pub up_to_last : (xs : List X) (k : ℕ) (d : X) → Climbs xs → length xs ≡ suc k → AreUpTo (get_or xs k d) xs
  up_to_last [] k d h e = absurd (omega arith)
  up_to_last (x ∷ []) zero d h e = (itself x, tt)
    where
      itself : (x : X) → is_gt (R x x) ≡ false
      itself x = ap is_gt (tied_itself total x)
  up_to_last (x ∷ y ∷ xs) zero d h e = absurd (omega arith)
  up_to_last (x ∷ []) (suc k) d h e = absurd (omega arith)
  up_to_last (x ∷ y ∷ xs) (suc k) d h e =
      let n : length (y ∷ xs) ≡ suc k = omega arith in
      (at_place (λ z. is_gt (R x z) ≡ false) (y ∷ xs) k d h.0 (omega arith), up_to_last (y ∷ xs) k d h.1 n)

  -- what is not below the bound is not below any of them
  pub over_bound : (x b : X) (ys : List X) → is_lt (R x b) ≡ false → AreUpTo b ys → AllByRecursion (λ y. is_lt (R x y) ≡ false) ys
  over_bound x b [] e h = tt
  over_bound x b (y ∷ ys) e h =
      let up : is_gt (R b x) ≡ false = ap is_gt (total.antisymm b x) ∙ sym (gt_of_lt (R x b)) ∙ e in
      let far : is_gt (R y x) ≡ false = upto total y b x h.0 up in
      (gt_of_lt (R x y) ∙ ap is_gt (sym (total.antisymm y x)) ∙ far, over_bound x b ys e h.1)
