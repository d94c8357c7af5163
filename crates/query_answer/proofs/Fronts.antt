-- The first few of a list in order, of which only some are kept while more come.
use Rattle.std.proofs.Common.{◌≡◌, ◌∙◌, ℕ, suc, ◌+◌, ◌≤◌, false, List, [], ◌∷◌, ◌++◌, append-nil, append_assoc, length, get_or, map, take, drop, Option, Some, None, refl, sym, ap, subst, arith}
use Rattle.std.specs.Cmp.{IsTotalOrder}
use Rattle.std.specs.List.{AllByRecursion, IsDistinct}
use Rattle.std.specs.List.Sorted.{IsPermutation, IsSorted, IsStrictlySortedBy}
use Rattle.std.specs.Ordering.{eq_by_cmp, is_lt}
use Rattle.std.specs.declared.cmp.Ordering.{Ordering}
use Rattle.std.specs.declared.cmp.Ordering.TheVariants.{Less}
use Rattle.std.proofs.lemmas.Cmp.{eq_by_cmp_equiv}
use Rattle.std.proofs.lemmas.List.{length-append, length-take-le, map-id, take_all, take-append-drop, take-take}
use Rattle.std.proofs.lemmas.List.Sorted.{IsPermutation-refl, IsPermutation-append_left, IsPermutation-cons, IsPermutation-middle, IsPermutation-to_front, length_permutation, IsPermutation-sym, IsPermutation-trans}
use Rattle.std.proofs.lemmas.Map.Keys.{IsDistinct-IsPermutation}
use Rattle.table_model.proofs.Rising.{rising_from_sort}
use Rattle.confluence_laws.proofs.SameTables.{one_list, permuted_on}
use Rattle.query_answer.proofs.InOrder.{AreUpTo, Climbs, climbing_in_order, climbs_sorted, climbs_take, over_bound, take_over, up_to_last, up_to_put, put_all_climbs, put_all_permutes, put_push, take_put}
use Rattle.query_answer.specs.Answers.{limited}
use Rattle.query_answer.specs.Fronts.{IsBounded, IsFront}
use Rattle.query_answer.specs.InOrder.{in_order, put}

module _ {X : Type 0} (R : X → X → Ordering) (total : IsTotalOrder R) where
  pub in_order_permutes : (xs : List X) → IsPermutation (in_order R xs) xs
  in_order_permutes xs = put_all_permutes R total [] xs

  pub in_order_climbs : (xs : List X) → Climbs R total (in_order R xs)
  in_order_climbs xs = put_all_climbs R total [] xs tt

  pub in_order_sorted : (xs : List X) → IsSorted R (in_order R xs)
  in_order_sorted xs = climbs_sorted R total (in_order R xs) (in_order_climbs xs)

  -- ---- one list is in order

  abbrev Rises : List X → Type 0
  Rises [] = Unit {0}
  Rises (x ∷ xs) = AllByRecursion (λ y. R x y ≡ Less) xs × Rises xs

  below : (x : X) (xs : List X) → AllByRecursion (λ y. R x y ≡ Less) (map (λ x. x) xs) → AllByRecursion (λ y. R x y ≡ Less) xs
  below x [] h = tt
  below x (y ∷ xs) h = (h.0, below x xs h.1)

  rises : (xs : List X) → IsStrictlySortedBy R (map (λ x. x) xs) → Rises xs
  unfolding IsStrictlySortedBy
  rises [] h = tt
  rises (x ∷ xs) h = (below x xs h.0, rises xs h.1)

  strict : (xs ys : List X) → IsDistinct (eq_by_cmp R) xs → IsPermutation xs ys → IsSorted R ys → Rises ys
  strict xs ys apart moved up = rises ys (rising_from_sort (λ (x : X). x) R total xs ys moved (subst (IsDistinct (eq_by_cmp R)) (sym (map-id xs)) apart) up)

  -- whatever is sorted of what differs is the list in order
  pub sorted_is_in_order : (xs ys : List X) → IsDistinct (eq_by_cmp R) xs → IsPermutation xs ys → IsSorted R ys → ys ≡ in_order R xs
  sorted_is_in_order xs ys apart moved up =
      let back : IsPermutation xs (in_order R xs) = IsPermutation-sym (in_order R xs) xs (in_order_permutes xs) in
      let there : IsPermutation ys (in_order R xs) = IsPermutation-trans ys xs (in_order R xs) (IsPermutation-sym xs ys moved) back in
      one_list (λ (x : X). x) R total ys (in_order R xs) (strict xs ys apart moved up) (strict xs (in_order R xs) apart back (in_order_sorted xs))
      (permuted_on ys (in_order R xs) there) (permuted_on (in_order R xs) ys (IsPermutation-sym ys (in_order R xs) there))

  -- ---- the first few

  pub put_first : (limit : Option ℕ) (xs ys : List X) (x : X) → limited limit xs ≡ limited limit ys → limited limit (put R x xs) ≡ limited limit (put R x ys)
  put_first None xs ys x e = ap (put R x) e
  put_first (Some n) xs ys x e = take_put R total n x xs ∙ ap (λ (zs : List X). take n (put R x zs)) e ∙ sym (take_put R total n x ys)

  pub front_none : (limit : Option ℕ) → IsFront R limit [] []
  front_none limit = record { rest = []; exact = IsPermutation-refl []; first = refl }

  pub front_more : (limit : Option ℕ) (kept all : List X) (x : X) → IsFront R limit kept all → IsFront R limit (kept ++ x ∷ []) (all ++ x ∷ [])
  front_more limit kept all x front =
      let regroup : (kept ++ x ∷ []) ++ front.rest ≡ kept ++ x ∷ front.rest = append_assoc kept (x ∷ []) front.rest in
      let moved : IsPermutation (kept ++ x ∷ front.rest) (all ++ x ∷ []) =
      IsPermutation-trans (kept ++ x ∷ front.rest) (x ∷ (kept ++ front.rest)) (all ++ x ∷ []) (IsPermutation-middle kept x front.rest)
      (IsPermutation-trans (x ∷ (kept ++ front.rest)) (x ∷ all) (all ++ x ∷ []) (IsPermutation-cons x (kept ++ front.rest) all front.exact) (IsPermutation-sym (all ++ x ∷ []) (x ∷ all) (IsPermutation-to_front all x))) in
      record {
        rest = front.rest;
        exact = subst (λ (zs : List X). IsPermutation zs (all ++ x ∷ [])) (sym regroup) moved;
        first = ap (limited limit) (put_push R total [] kept x) ∙ put_first limit (in_order R kept) (in_order R all) x front.first ∙ ap (limited limit) (sym (put_push R total [] all x));
      }

  -- what the limit leaves out
  abbrev left : Option ℕ → List X → List X
  left None xs = []
  left (Some n) xs = drop n xs

  both_parts : (limit : Option ℕ) (xs : List X) → limited limit xs ++ left limit xs ≡ xs
  both_parts None xs = append-nil xs
  both_parts (Some n) xs = take-append-drop n xs

  twice : (limit : Option ℕ) (xs : List X) → limited limit (limited limit xs) ≡ limited limit xs
  twice None xs = refl
  twice (Some n) xs = take-take n n xs (omega arith)

  climbs_limited : (limit : Option ℕ) (xs : List X) → Climbs R total xs → Climbs R total (limited limit xs)
  climbs_limited None xs h = h
  climbs_limited (Some n) xs h = climbs_take R total n xs h

  -- the first few in order are in order
  pub limited_in_order : (limit : Option ℕ) (xs : List X) → in_order R (limited limit (in_order R xs)) ≡ limited limit (in_order R xs)
  limited_in_order limit xs = climbing_in_order R total (limited limit (in_order R xs)) (climbs_limited limit (in_order R xs) (in_order_climbs xs))

  pub front_cut : (limit : Option ℕ) (kept all : List X) → IsFront R limit kept all → IsFront R limit (limited limit (in_order R kept)) all
  front_cut limit kept all front =
      let sorted = in_order R kept in
      let parts : limited limit sorted ++ (left limit sorted ++ front.rest) ≡ sorted ++ front.rest =
      sym (append_assoc (limited limit sorted) (left limit sorted) front.rest) ∙ ap (λ (zs : List X). zs ++ front.rest) (both_parts limit sorted) in
      record {
        rest = left limit sorted ++ front.rest;
        exact = subst (λ (zs : List X). IsPermutation zs all) (sym parts)
            (IsPermutation-trans (sorted ++ front.rest) (kept ++ front.rest) all (IsPermutation-append_left front.rest sorted kept (in_order_permutes kept)) front.exact);
        first = ap (limited limit) (limited_in_order limit kept) ∙ twice limit sorted ∙ front.first;
      }

  -- ---- a bound

  as_many : (xs : List X) → length (in_order R xs) ≡ length xs
  as_many xs = sym (length_permutation (in_order R xs) xs (in_order_permutes xs))

  pub bounded_more : (n : ℕ) (kept : List X) (b x : X) → IsBounded R n kept b → IsBounded R n (kept ++ x ∷ []) b
  bounded_more n kept b x h =
      let few : n ≤ length (in_order R kept) = subst (λ (m : ℕ). n ≤ m) (sym (as_many kept)) h.many in
      record {
        many = subst (λ (m : ℕ). n ≤ m) (sym (length-append kept (x ∷ []))) (le_more h.many);
        bound = subst (λ (zs : List X). AreUpTo R total b (take n zs)) (sym (put_push R total [] kept x)) (up_to_put R total b n x (in_order R kept) few h.bound);
      }
    where
      le_more : {m : ℕ} → n ≤ m → n ≤ m + 1
      le_more {m} e = omega arith

  pub bounded_cut : (k : ℕ) (kept : List X) (d : X) → suc k ≤ length kept → IsBounded R (suc k) (take (suc k) (in_order R kept)) (get_or (take (suc k) (in_order R kept)) k d)
  bounded_cut k kept d few =
      let sorted = in_order R kept in
      let front = take (suc k) sorted in
      let low : suc k ≤ length sorted = subst (λ (m : ℕ). suc k ≤ m) (sym (as_many kept)) few in
      let n : length front ≡ suc k = length-take-le (suc k) sorted low in
      let up = climbs_take R total (suc k) sorted (in_order_climbs kept) in
      let same : take (suc k) (in_order R front) ≡ front = ap (take (suc k)) (climbing_in_order R total front up) ∙ take_all (suc k) front (omega (arith, n)) in
      record {
        many = omega (arith, n);
        bound = subst (AreUpTo R total (get_or front k d)) (sym same) (up_to_last R total front k d up n);
      }

  pub front_late : (n : ℕ) (kept all : List X) (b x : X) → IsFront R (Some n) kept all → IsBounded R n kept b → is_lt (R x b) ≡ false → IsFront R (Some n) kept (all ++ x ∷ [])
  front_late n kept all b x front h late =
      let few : n ≤ length (in_order R kept) = subst (λ (m : ℕ). n ≤ m) (sym (as_many kept)) h.many in
      let over : take n (put R x (in_order R kept)) ≡ take n (in_order R kept) = take_over R total n x (in_order R kept) few (over_bound R total x b (take n (in_order R kept)) late h.bound) in
      record {
        rest = front.rest ++ x ∷ [];
        exact = subst (λ (zs : List X). IsPermutation zs (all ++ x ∷ [])) (append_assoc kept front.rest (x ∷ [])) (IsPermutation-append_left (x ∷ []) (kept ++ front.rest) all front.exact);
        first = sym over ∙ put_first (Some n) (in_order R kept) (in_order R all) x front.first ∙ ap (take n) (sym (put_push R total [] all x));
      }

  -- what is kept differs where all do
  pub kept_distinct : (limit : Option ℕ) (kept all : List X) → IsFront R limit kept all → IsDistinct (eq_by_cmp R) all → IsDistinct (eq_by_cmp R) kept
  unfolding IsDistinct
  kept_distinct limit kept all front apart =
      fore kept front.rest (IsDistinct-IsPermutation (eq_by_cmp R) ((eq_by_cmp_equiv total).symm) all (kept ++ front.rest) (IsPermutation-sym (kept ++ front.rest) all front.exact) apart)
    where
      each : (x : X) (xs ys : List X) → AllByRecursion (λ y. eq_by_cmp R x y ≡ false) (xs ++ ys) → AllByRecursion (λ y. eq_by_cmp R x y ≡ false) xs
      each x [] ys h = tt
      each x (z ∷ xs) ys h = (h.0, each x xs ys h.1)

      fore : (xs ys : List X) → IsDistinct (eq_by_cmp R) (xs ++ ys) → IsDistinct (eq_by_cmp R) xs
      fore [] ys h = tt
      fore (x ∷ xs) ys h = (each x xs ys h.0, fore xs ys h.1)
