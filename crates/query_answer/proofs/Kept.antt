-- What is kept of the lines that came.
use Rattle.std.proofs.Common.{◌≡◌, ◌∙◌, ℕ, suc, ◌+◌, ◌<◌, ◌≤◌, true, false, List, [], ◌∷◌, ◌++◌, length, get_or, map, take, Option, Some, None, refl, sym, ap, subst, arith}
use Rattle.std.specs.List.Sorted.{IsPermutation, IsSorted}
use Rattle.std.specs.Ordering.{is_ge, is_lt}
use Rattle.std.specs.declared.cmp.Ordering.{Ordering}
use Rattle.std.specs.declared.cmp.Ordering.TheVariants.{Less, Equal, Greater}
use Rattle.std.proofs.lemmas.List.{get_or-map, get_or_append_left, length-append, length-map, length-take-le, map-append, take-map}
use Rattle.std.proofs.lemmas.List.Sorted.{IsPermutation-map, length_permutation}
use Rattle.query.specs.declared.item.Key.{Key}
use Rattle.query_answer.specs.declared.front.Front.{Front}
use Rattle.query_answer.specs.declared.line.Line.{Line}
use Rattle.query_answer.specs.Answers.{LineData, data_cmp, limited, line_cmp, line_data}
use Rattle.query_answer.specs.Fronts.{AreApart, Holds, IsBounded, IsBoundedAt, IsFront, IsLastPlace, IsReached}
use Rattle.query_answer.specs.InOrder.{in_order}
use Rattle.query_answer.proofs.Fronts.{bounded_cut, bounded_more, front_cut, front_late, front_more, in_order_permutes, kept_distinct, sorted_is_in_order}
use Rattle.query_answer.proofs.Orders.{data_total}

-- lines in order are in order with what they say
sorted_data : (keys : List Key) (lines : List Line) → IsSorted (line_cmp keys) lines → IsSorted (data_cmp keys) (map line_data lines)
sorted_data keys lines up = λ k d low high. step k d high lines refl
  where
    step : (k : ℕ) (d : LineData) → k + 1 < length (map line_data lines) → (xs : List Line) → lines ≡ xs
        → is_lt (data_cmp keys (get_or (map line_data lines) (k + 1) d) (get_or (map line_data lines) k d)) ≡ false
    step k d high [] is = let n : length (map line_data lines) ≡ 0 = ap (λ (xs : List Line). length (map line_data xs)) is in absurd (omega arith)
    step k d high (first ∷ xs) is =
        let n : length (map line_data lines) ≡ length lines = length-map lines line_data in
        let low : k < length lines = omega arith in
        let next : k + 1 < length lines = omega arith in
        let left : get_or (map line_data lines) k d ≡ line_data (get_or lines k first) = get_or-map line_data lines k first d low in
        let right : get_or (map line_data lines) (k + 1) d ≡ line_data (get_or lines (k + 1) first) = get_or-map line_data lines (k + 1) first d next in
        (λ i. is_lt (data_cmp keys (right i) (left i))) ∙ up k first (omega arith) next

-- lines that were sorted and cut
pub cut_sorted : (keys : List Key) (limit : Option ℕ) (lines sorted left : List Line) → IsPermutation lines sorted → IsSorted (line_cmp keys) sorted → left ≡ limited limit sorted
    → AreApart keys (map line_data lines) → map line_data left ≡ limited limit (in_order (data_cmp keys) (map line_data lines))
cut_sorted keys limit lines sorted left moved up is apart =
    ap (map line_data) is ∙ turned limit sorted
    ∙ ap (limited limit) (sorted_is_in_order (data_cmp keys) (data_total keys) (map line_data lines) (map line_data sorted) apart (IsPermutation-map line_data lines sorted moved) (sorted_data keys sorted up))
  where
    turned : (limit : Option ℕ) (xs : List Line) → map line_data (limited limit xs) ≡ limited limit (map line_data xs)
    turned None xs = refl
    turned (Some n) xs = sym (take-map line_data n xs)

-- what came behind the bound
pub late : (keys : List Key) (front : Front) (place : ℕ) (last line : Line) → front.bound ≡ Some place → last ≡ get_or front.lines.items place last → place < length front.lines.items
    → is_lt (line_cmp keys line last) ≡ false → (limit : Option ℕ) (all : List LineData) → Holds keys limit front all → Holds keys limit front (all ++ line_data line ∷ [])
late keys front place last line bound at within behind limit all h =
    let kept = map line_data front.lines.items in
    let b = h.bounded place bound in
    let there : get_or kept place (line_data last) ≡ line_data last = get_or-map line_data front.lines.items place last (line_data last) within ∙ ap line_data (sym at) in
    let some : IsFront (data_cmp keys) (Some b.most) kept all = subst (λ (l : Option ℕ). IsFront (data_cmp keys) l kept all) b.is h.is in
    record {
      same = h.same;
      is = subst (λ (l : Option ℕ). IsFront (data_cmp keys) l kept (all ++ line_data line ∷ [])) (sym b.is)
          (front_late (data_cmp keys) (data_total keys) b.most kept all (line_data last) (line_data line) some (subst (IsBounded (data_cmp keys) b.most kept) there (b.bound (line_data last))) behind);
      bounded = h.bounded;
    }

-- one line more is kept
pub pushed : (keys : List Key) (old new : Front) (line : Line) → new.limit ≡ old.limit → new.bound ≡ old.bound → new.lines.items ≡ old.lines.items ++ line ∷ []
    → (limit : Option ℕ) (all : List LineData) → Holds keys limit old all → Holds keys limit new (all ++ line_data line ∷ [])
pushed keys old new line limits bounds lines limit all h =
    let R = data_cmp keys in
    let kept = map line_data old.lines.items in
    let told : kept ++ line_data line ∷ [] ≡ map line_data new.lines.items = sym (map-append line_data old.lines.items (line ∷ [])) ∙ ap (map line_data) (sym lines) in
    record {
      same = limits ∙ h.same;
      is = subst (λ (xs : List LineData). IsFront R limit xs (all ++ line_data line ∷ [])) told (front_more R (data_total keys) limit kept all (line_data line) h.is);
      bounded = λ place is.
          let b = h.bounded place (sym bounds ∙ is) in
          subst (λ (xs : List LineData). IsBoundedAt keys limit xs place) told (record {
            most = b.most;
            is = b.is;
            within = more place kept (line_data line) b.within;
            bound = λ d. subst (IsBounded R b.most (kept ++ line_data line ∷ [])) (sym (get_or_append_left kept (line_data line ∷ []) d place b.within))
                (bounded_more R (data_total keys) b.most kept (get_or kept place d) (line_data line) (b.bound d));
          });
    }
  where
    more : (place : ℕ) (xs : List LineData) (x : LineData) → place < length xs → place < length (xs ++ x ∷ [])
    more place xs x low = omega (arith, length-append xs (x ∷ []))

pub not_below : (o : Ordering) → is_ge o ≡ true → is_lt o ≡ false
not_below Less e = absurd cc
not_below Equal e = refl
not_below Greater e = refl

-- after a cut
pub cut_holds : (keys : List Key) (old new : Front) → new.limit ≡ old.limit → IsReached old.limit (length old.lines.items) → IsLastPlace (length new.lines.items) new.bound
    → (AreApart keys (map line_data old.lines.items) → map line_data new.lines.items ≡ limited old.limit (in_order (data_cmp keys) (map line_data old.lines.items)))
    → (limit : Option ℕ) (all : List LineData) → AreApart keys all → Holds keys limit old all → Holds keys limit new all
cut_holds keys old new limits reached last cut limit all apart h =
    let R = data_cmp keys in
    let total = data_total keys in
    let kept = map line_data old.lines.items in
    let left = map line_data new.lines.items in
    let told : left ≡ limited limit (in_order R kept) = cut (kept_distinct R total limit kept all h.is apart) ∙ ap (λ (l : Option ℕ). limited l (in_order R kept)) h.same in
    record {
      same = limits ∙ h.same;
      is = subst (λ (xs : List LineData). IsFront R limit xs all) (sym told) (front_cut R total limit kept all h.is);
      bounded = λ place is. at limit (subst (λ (l : Option ℕ). IsReached l (length old.lines.items)) h.same reached) told place (subst (IsLastPlace (length new.lines.items)) is last);
    }
  where
    at : (limit : Option ℕ) → IsReached limit (length old.lines.items) → map line_data new.lines.items ≡ limited limit (in_order (data_cmp keys) (map line_data old.lines.items))
        → (place : ℕ) → length new.lines.items ≡ suc place → IsBoundedAt keys limit (map line_data new.lines.items) place
    at None reached told place last = absurd reached
    at (Some n) reached told place last =
        let R = data_cmp keys in
        let kept = map line_data old.lines.items in
        let left = map line_data new.lines.items in
        let many : length kept ≡ length old.lines.items = length-map old.lines.items line_data in
        let few : length left ≡ length new.lines.items = length-map new.lines.items line_data in
        let sorted : length (in_order R kept) ≡ length kept = sym (length_permutation (in_order R kept) kept (in_order_permutes R (data_total keys) kept)) in
        let low : n ≤ length (in_order R kept) = omega (arith, reached, many, sorted) in
        let taken : length (take n (in_order R kept)) ≡ n = length-take-le n (in_order R kept) low in
        let same : n ≡ suc place = sym taken ∙ ap length (sym told) ∙ few ∙ last in
        record {
          most = n;
          is = refl;
          within = omega (arith, few, last);
          bound = λ d. subst (λ (xs : List LineData). IsBounded R n xs (get_or xs place d)) (sym told)
              (subst (λ (m : ℕ). IsBounded R m (take m (in_order R kept)) (get_or (take m (in_order R kept)) place d)) (sym same)
              (bounded_cut R (data_total keys) place kept d (omega (arith, same, reached, many))));
        }

-- what is left at the end
pub all_first : (keys : List Key) (front : Front) (lines : List Line)
    → (AreApart keys (map line_data front.lines.items) → map line_data lines ≡ limited front.limit (in_order (data_cmp keys) (map line_data front.lines.items)))
    → (limit : Option ℕ) (all : List LineData) → AreApart keys all → Holds keys limit front all → map line_data lines ≡ limited limit (in_order (data_cmp keys) all)
all_first keys front lines cut limit all apart h =
    let R = data_cmp keys in
    let kept = map line_data front.lines.items in
    cut (kept_distinct R (data_total keys) limit kept all h.is apart) ∙ ap (λ (l : Option ℕ). limited l (in_order R kept)) h.same ∙ h.is.first
