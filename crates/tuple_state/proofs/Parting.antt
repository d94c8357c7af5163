-- The links of each row, which stand together.
use Rattle.std.proofs.Common.{◌≡◌, ◌≢◌, ℕ, zero, suc, ◌+◌, ◌-◌, ◌<◌, ◌≤◌, ◌==◌, Bool, true, false, not, ◌&&◌, cond, List, [], ◌∷◌, ◌++◌, length, get_or, map, take, drop, length-append, refl, sym, subst, ap, ◌∙◌, Option, Some, arith}
use Rattle.std.specs.Prelude.{count_by, filter, slice_get}
use Rattle.std.proofs.Math.Seq.{drop-append_seam, drop-append-add, take-append_seam}
use Rattle.std.proofs.lemmas.Bool.{eq-eqb, eqb-true, false_from_ne_true}
use Rattle.std.proofs.lemmas.List.{drop-map, length-map, length-take-le, take-append-drop, take-map}
use Rattle.std.proofs.lemmas.List.Elements.{filter-append}
use Rattle.update_model.specs.declared.row_name.RowName.{RowName}
use Rattle.table_model.specs.Visible.{RowRef, Rules, cascade_refs}
use Rattle.tuple_state.specs.Causes.{AreParted, AreRising, absent_times, begin_of, ends_from, is_absent, parents_from}
use Rattle.tuple_state.specs.Kept.{deletes_at, pairs_of}
use Rattle.tuple_state.specs.State.{dropped_at, row_of}
use Rattle.tuple_state.specs.declared.dropped.Dropped.{Dropped}
use Rattle.tuple_state.specs.declared.inserted.Inserted.{Inserted}
use Rattle.tuple_state.specs.declared.links.Link.{Link}
use Rattle.tuple_state.proofs.Counting.{count_of_kept}
use Rattle.tuple_state.proofs.Deleting.{pair_parts}
use Rattle.tuple_state.proofs.Dropping.{row_there}
use Rattle.tuple_state.proofs.Lookups.{get_or_from}
use Rattle.tuple_state.proofs.Marking.{slice_get_below}
use Rattle.tuple_state.proofs.Raising.{rising_at}
use Rattle.tuple_state.proofs.Settles.{absent_agree}
use Rattle.tuple_state.proofs.Spans.{before, begin_first, begin_later, end_is, ends-length, few, names_of, next_is, rises}

-- whether a link has this number
abbrev has : ℕ → Link → Bool
has n link = link.number == n

-- ---- links and names, in two parts

record Halves (place : RowName → Option ℕ) (names rest : List Dropped) (links : List Link) : Type 0 where
  pub front : pairs_of (take (length names) links) ≡ deletes_at place names
  pub back : pairs_of (drop (length names) links) ≡ deletes_at place rest
  pub len : length names ≤ length links

halves : (place : RowName → Option ℕ) (names rest : List Dropped) (links : List Link) → pairs_of links ≡ deletes_at place (names ++ rest) → Halves place names rest links
halves place names rest links h = record {
  front =
      sym (take-map (λ (l : Link). (Some l.place, l.number)) (length names) links) ∙ ap (take (length names)) h
      ∙ take-map (λ (d : Dropped). (place d.name, d.position)) (length names) (names ++ rest) ∙ ap (deletes_at place) (take-append_seam names rest);
  back =
      sym (drop-map (λ (l : Link). (Some l.place, l.number)) (length names) links) ∙ ap (drop (length names)) h
      ∙ drop-map (λ (d : Dropped). (place d.name, d.position)) (length names) (names ++ rest) ∙ ap (deletes_at place) (drop-append_seam names rest);
  len =
      let a = ap length h in
      let b = length-map {B = Option ℕ × ℕ} links (λ (link : Link). (Some link.place, link.number)) in
      let c = length-map {B = Option ℕ × ℕ} (names ++ rest) (λ (d : Dropped). (place d.name, d.position)) in
      let e = length-append names rest in
      omega (arith, a, b, c, e);
}

parts_kept : (t : Link → Bool) (m : ℕ) (links : List Link) → filter t links ≡ filter t (take m links) ++ filter t (drop m links)
parts_kept t m links = ap (filter t) (sym (take-append-drop m links)) ∙ filter-append t (take m links) (drop m links)

kept_cons : (t : Link → Bool) (link : Link) (links : List Link) → filter t (link ∷ links) ≡ cond (t link) (link ∷ filter t links) (filter t links)
kept_cons t link links = refl

-- ---- the numbers of the links of one row, and of later ones

own_numbers : (place : RowName → Option ℕ) (p n : ℕ) (links : List Link) (named : List RowRef) → pairs_of links ≡ deletes_at place (map (λ (r : RowRef). dropped_at p r.name) named) → p ≡ n → filter (has n) links ≡ links
own_numbers place p n [] named h is = refl
own_numbers place p n (link ∷ links) [] h is = absurd (cc)
own_numbers place p n (link ∷ links) (r ∷ named) h is =
    let pair = pair_parts place link (dropped_at p r.name) links (map (λ (x : RowRef). dropped_at p x.name) named) h in
    let yes : has n link ≡ true = eq-eqb link.number n (pair.number ∙ is) in
    kept_cons (has n) link links ∙ (λ i. cond (yes i) (link ∷ own_numbers place p n links named pair.rest is i) (filter (has n) links))

other_numbers : (place : RowName → Option ℕ) (p n : ℕ) (links : List Link) (named : List RowRef) → pairs_of links ≡ deletes_at place (map (λ (r : RowRef). dropped_at p r.name) named) → p ≢ n → filter (has n) links ≡ []
other_numbers place p n [] named h ne = refl
other_numbers place p n (link ∷ links) [] h ne = absurd (cc)
other_numbers place p n (link ∷ links) (r ∷ named) h ne =
    let pair = pair_parts place link (dropped_at p r.name) links (map (λ (x : RowRef). dropped_at p x.name) named) h in
    let no : has n link ≡ false = false_from_ne_true _ (λ e. ne (sym pair.number ∙ eqb-true link.number n e)) in
    kept_cons (has n) link links ∙ (λ i. cond (no i) (link ∷ filter (has n) links) (other_numbers place p n links named pair.rest ne i))

later_numbers : (rules : Rules) (place : RowName → Option ℕ) (p n : ℕ) (rows : List Inserted) (links : List Link) → pairs_of links ≡ deletes_at place (parents_from rules p rows) → n < p → filter (has n) links ≡ []
unfolding parents_from
later_numbers rules place p n [] [] h low = refl
later_numbers rules place p n [] (link ∷ links) h low = absurd (cc)
later_numbers rules place p n (x ∷ rows) links h low =
    let m = length (names_of rules p x) in
    let both = halves place (names_of rules p x) (parents_from rules (p + 1) rows) links h in
    parts_kept (has n) m links
    ∙ (λ i. other_numbers place p n (take m links) (cascade_refs rules (row_of x)) both.front (λ e. omega (arith, e, low)) i ++ later_numbers rules place (p + 1) n rows (drop m links) both.back (omega (arith, low)) i)

-- ---- the links with the number of a row

spans : (rules : Rules) (place : RowName → Option ℕ) (p : ℕ) (rows : List Inserted) (links : List Link) → pairs_of links ≡ deletes_at place (parents_from rules p rows) → (k : ℕ) (it : Inserted) → slice_get rows k ≡ Some it
    → take (length (cascade_refs rules (row_of it))) (drop (length (parents_from rules p (take k rows))) links) ≡ filter (has (p + k)) links
unfolding parents_from
spans rules place p [] links h k it at = absurd (cc)
spans rules place p (x ∷ rows) links h zero it at =
    let same : x ≡ it = cc in
    let m = length (names_of rules p x) in
    let both = halves place (names_of rules p x) (parents_from rules (p + 1) rows) links h in
    let len : length (cascade_refs rules (row_of it)) ≡ m = sym (length-map (cascade_refs rules (row_of it)) (λ (r : RowRef). dropped_at p r.name)) ∙ ap (λ (y : Inserted). length (names_of rules p y)) (sym same) in
    let here : p ≡ p + 0 = omega arith in
    ap (λ j. take j links) len
    ∙ sym (parts_kept (has (p + 0)) m links ∙ (λ i. own_numbers place p (p + 0) (take m links) (cascade_refs rules (row_of x)) both.front here i ++ later_numbers rules place (p + 1) (p + 0) rows (drop m links) both.back (omega arith) i)
    ∙ nil_right (take m links))
  where
    nil_right : (xs : List Link) → xs ++ [] ≡ xs
    nil_right [] = refl
    nil_right (y ∷ xs) = ap (λ l. y ∷ l) (nil_right xs)
spans rules place p (x ∷ rows) links h (suc k) it at =
    let m = length (names_of rules p x) in
    let b = length (parents_from rules (p + 1) (take k rows)) in
    let both = halves place (names_of rules p x) (parents_from rules (p + 1) rows) links h in
    let front : length (take m links) ≡ m = length-take-le m links both.len in
    let sum = length-append (names_of rules p x) (parents_from rules (p + 1) (take k rows)) in
    let far : drop (length (names_of rules p x ++ parents_from rules (p + 1) (take k rows))) links ≡ drop b (drop m links) =
    (λ i. drop ((sum ∙ ap (λ j. j + b) (sym front)) i) (sym (take-append-drop m links) i)) ∙ drop-append-add (take m links) (drop m links) b in
    ap (take (length (cascade_refs rules (row_of it)))) far
    ∙ spans rules place (p + 1) rows (drop m links) both.back k it at
    ∙ ap (λ j. filter (has j) (drop m links)) (let e : p + 1 + k ≡ p + suc k = omega arith in e)
    ∙ sym (parts_kept (has (p + suc k)) m links ∙ ap (λ l. l ++ filter (has (p + suc k)) (drop m links)) (other_numbers place p (p + suc k) (take m links) (cascade_refs rules (row_of x)) both.front (λ e. omega (arith, e))))

begins : (rules : Rules) (rows : List Inserted) (ends : List ℕ) → ends ≡ ends_from rules 0 rows → (k : ℕ) → k ≤ length rows → begin_of ends k ≡ before rules rows k
begins rules rows ends ended zero below = begin_first rules rows 0 refl
begins rules rows ends ended (suc k) below = begin_later rules rows ends (suc k) (get_or ends k 0) 0 ended below (λ e. omega (arith, e)) (ap (λ n. get_or ends n 0) (let e : k ≡ suc k - 1 = omega arith in e))

pub ends_each : (rules : Rules) (rows : List Inserted) (ends : List ℕ) → ends ≡ ends_from rules 0 rows → length ends ≡ length rows
ends_each rules rows ends ended = ap length ended ∙ ends-length rules 0 rows

pub parted_moved : (links names : List Link) (ends more : List ℕ) → links ≡ names → ends ≡ more → AreParted links ends → AreParted names more
parted_moved links names ends more a b h = subst (λ (l : List Link). AreParted l more) a (subst (λ (e : List ℕ). AreParted links e) b h)

-- links that lead to rows from those that they name stand row by row
pub parted : (rules : Rules) (place : RowName → Option ℕ) (rows : List Inserted) (links : List Link) (ends : List ℕ) → pairs_of links ≡ deletes_at place (parents_from rules 0 rows) → ends ≡ ends_from rules 0 rows → AreParted links ends
parted rules place rows links ends named ended = record {
  rises = λ k low.
      let len = ends_each rules rows ends ended in
      let below : k < length rows = omega (arith, low, len) in
      let row = row_there rows k below in
      let a = begins rules rows ends ended k (omega (arith, below)) in
      let b = end_is rules rows ends k (get_or ends k 0) 0 ended below refl in
      let r = rises rules place rows links named k row.0 row.1 in
      omega (arith, a, b, r);
  few = λ k low.
      let len = ends_each rules rows ends ended in
      let below : k < length rows = omega (arith, low, len) in
      let row = row_there rows k below in
      let b = end_is rules rows ends k (get_or ends k 0) 0 ended below refl in
      let f = few rules place rows links named k row.0 row.1 in
      omega (arith, b, f);
  own = λ k low.
      let len = ends_each rules rows ends ended in
      let below : k < length rows = omega (arith, low, len) in
      let row = row_there rows k below in
      let a = begins rules rows ends ended k (omega (arith, below)) in
      let b = end_is rules rows ends k (get_or ends k 0) 0 ended below refl in
      let n = next_is rules place rows links named k row.0 row.1 in
      let size : get_or ends k 0 - begin_of ends k ≡ length (cascade_refs rules (row_of row.0)) = omega (arith, a, b, n) in
      (λ i. take (size i) (drop (a i) links)) ∙ spans rules place 0 rows links named k row.0 row.1
      ∙ ap (λ j. filter (has j) links) (let e : 0 + k ≡ k = omega arith in e);
}

-- ---- the absent places of the links of a row

and_turned : (a b : Bool) → (a && b) ≡ (b && a)
and_turned true true = refl
and_turned true false = refl
and_turned false true = refl
and_turned false false = refl

pub absent_parents : (causes : List ℕ) (links : List Link) (k : ℕ) → count_by (λ (l : Link). is_absent causes l.place) (filter (λ (l : Link). l.number == k) links) ≡ absent_times links causes k
absent_parents causes links k =
    count_of_kept (λ (l : Link). is_absent causes l.place) (λ (l : Link). l.number == k) links
    ∙ (λ i. count_by (λ (l : Link). and_turned (l.number == k) (is_absent causes l.place) i) links)

-- a row rests on earlier ones alone
pub absent_before : (high : ℕ) (links : List Link) (a b : List ℕ) (n k : ℕ) → AreRising 0 high links → ((j : ℕ) → j < n → get_or a j 0 ≡ get_or b j 0) → k ≤ n → absent_times links a k ≡ absent_times links b k
absent_before high links a b n k rise same low =
    absent_agree a b k links (λ m link there number.
    let below = slice_get_below links m link there in
    let at = rising_at 0 high links m link rise below in
    let is = get_or_from links m link link there in
    let lt : link.place < n = (let p = at.1 in let e = ap (λ (l : Link). l.place) is in let f = ap (λ (l : Link). l.number) is in omega (arith, p, e, f, number, low)) in
    ap (λ c. not (c == 0)) (same link.place lt))
