-- What the count of a row is, by the definitions.
use Rattle.std.proofs.Common.{◌≡◌, ℕ, zero, suc, ◌+◌, ◌<◌, ◌==◌, Bool, true, false, cond, not, ◌&&◌, ◌||◌, List, [], ◌∷◌, ◌++◌, get_or, map, reverse, refl, sym, ap, ◌∙◌, Option, Some, None, nat_lt, inl, inr, arith}
use Rattle.std.specs.Prelude.{count_by, filter, slice_get}
use Rattle.std.specs.List.{list_all, list_any}
use Rattle.std.proofs.lemmas.Bool.{and_parts, both_ways, cases_Bool, eqb-true, eq-eqb, false_from_ne_true}
use Rattle.std.proofs.lemmas.Bool.Decides.{nat_tests}
use Rattle.std.proofs.lemmas.List.Sums.{sum_by-append, sum_by-cons}
use Rattle.update_model.specs.declared.row_name.RowName.{RowName}
use Rattle.tuple_state.specs.declared.shape.Shape.{Shape}
use Rattle.table_model.specs.Visible.{Effects, RowRef, Rules, TableRow, cascade_refs, goes_before, is_candidate, is_deleted, is_least, is_least_in, is_visible, kept_of, same_row, shows}
use Rattle.table_model.specs.Counts.{one_where}
use Rattle.table_model.proofs.Members.{any_mapped, any_reversed}
use Rattle.table_model.proofs.Settled.{are_resting, shows_none, shows_one, visible_only}
use Rattle.table_model.proofs.Standing.{row_from_same, same_row-refl}
use Rattle.tuple_state.specs.declared.dropped.Dropped.{Dropped}
use Rattle.tuple_state.specs.declared.groups.Groups.{Groups}
use Rattle.tuple_state.specs.declared.inserted.Inserted.{Inserted}
use Rattle.tuple_state.specs.declared.links.Link.{Link}
use Rattle.tuple_state.specs.Causes.{absent_times, is_absent, parents_from}
use Rattle.std.specs.BTreeMap.{BTreeMap}
use Rattle.tuple_state.specs.Kept.{IsKept, are_layered, deletes_at, pairs_of, place_of}
use Rattle.tuple_state.specs.Least.{AreSettled, any_from, is_free, is_passed, is_passed_in, passed_by}
use Rattle.tuple_state.specs.Links.{Linked, is_of}
use Rattle.tuple_state.specs.State.{State, done_in, dropped_at, row_of, rules_of_state, rules_over}
use Rattle.tuple_state.proofs.Deleting.{one_name, pair_parts}
use Rattle.tuple_state.proofs.Layers.{each_stands}
use Rattle.tuple_state.proofs.Linking.{default_free}
use Rattle.tuple_state.proofs.Lookups.{named_reversed, resting_now, row_found, unnamed_from_none}
use Rattle.tuple_state.proofs.Marking.{slice_get_below}
use Rattle.tuple_state.proofs.Marks.{found_layered, named_before}
use Rattle.tuple_state.proofs.Pasts.{fewer_any}
use Rattle.tuple_state.proofs.Raising.{unit}
use Rattle.tuple_state.proofs.Reaching.{left_in, left_out}
use Rattle.tuple_state.proofs.Walking.{and_turned}

-- ---- counts

pub count_cons : {X : Type 0} (f : X → Bool) (x : X) (xs : List X) → count_by f (x ∷ xs) ≡ unit (f x) + count_by f xs
count_cons f x xs = sum_by-cons (λ y. cond (f y) 1 0) x xs

pub none_counted : {X : Type 0} (f : X → Bool) (xs : List X) → (count_by f xs == 0) ≡ not (list_any f xs)
none_counted f [] = refl
none_counted f (x ∷ xs) =
    let step : (b : Bool) → (unit b + count_by f xs == 0) ≡ not (b || list_any f xs) =
    elim [
      | true ↦ false_from_ne_true _ (λ e. let z : 1 + count_by f xs ≡ 0 = eqb-true _ _ e in absurd (omega (arith, z)))
      | false ↦ ap (λ n. n == 0) (let z : 0 + count_by f xs ≡ count_by f xs = omega arith in z) ∙ none_counted f xs
    ] in
    ap (λ n. n == 0) (count_cons f x xs) ∙ step (f x)

all_counted : {X : Type 0} (f : X → Bool) (xs : List X) → (count_by (λ x. not (f x)) xs == 0) ≡ list_all f xs
all_counted f xs = none_counted (λ x. not (f x)) xs ∙ turned f xs
  where
    turned : {Y : Type 0} (g : Y → Bool) (ys : List Y) → not (list_any (λ y. not (g y)) ys) ≡ list_all g ys
    turned g [] = refl
    turned g (y ∷ ys) =
        let step : (b : Bool) → not (not b || list_any (λ z. not (g z)) ys) ≡ (b && list_all g ys) = elim [ true ↦ turned g ys | false ↦ refl ] in
        step (g y)

sum_zero : (a b : ℕ) → (a + b == 0) ≡ ((b == 0) && (a == 0))
sum_zero a b = grind (arith, nat_tests)

count_agree : {X : Type 0} (n f g : X → Bool) → ((x : X) → n x ≡ true → f x ≡ g x) → (xs : List X) → list_all n xs ≡ true → count_by f xs ≡ count_by g xs
count_agree n f g h [] a = refl
count_agree n f g h (x ∷ xs) a =
    let parts = and_parts (n x) _ a in
    count_cons f x xs ∙ (λ i. unit (h x parts.0 i) + count_agree n f g h xs parts.1 i) ∙ sym (count_cons g x xs)

pub count_append : {X : Type 0} (f : X → Bool) (xs ys : List X) → count_by f (xs ++ ys) ≡ count_by f xs + count_by f ys
count_append f xs ys = sum_by-append (λ x. cond (f x) 1 0) xs ys

-- ---- the updates that delete a row

module _ (rows : List Inserted) (place : ℕ) (name : RowName) (found : place_of rows name ≡ Some place) where
  pub deleters_counted : (links : List Link) (dropped : List Dropped) → pairs_of links ≡ deletes_at (place_of rows) dropped → count_by (is_of place) links ≡ count_by (λ (d : Dropped). same_row name d.name) dropped
  deleters_counted [] [] h = refl
  deleters_counted [] (d ∷ dropped) h = absurd (cc)
  deleters_counted (link ∷ links) [] h = absurd (cc)
  deleters_counted (link ∷ links) (d ∷ dropped) h =
      let pair = pair_parts (place_of rows) link d links dropped h in
      let rest = deleters_counted links dropped pair.rest in
      let one : is_of place link ≡ same_row name d.name = elim (cases_Bool (is_of place link)) [
        | inl y ↦
            let same : link.place ≡ place = eqb-true link.place place y in
            y ∙ sym (ap (same_row name) (sym (one_name rows (λ n. true) place name found d.name (sym pair.at ∙ ap Some same))) ∙ same_row-refl name)
        | inr n ↦
            n ∙ sym (false_from_ne_true _ (λ e.
            let one : Some link.place ≡ Some place = pair.at ∙ ap (place_of rows) (sym (row_from_same name d.name e)) ∙ found in
            let same : link.place ≡ place = cc in
            both_ways _ n (eq-eqb link.place place same)))
      ] in
      count_cons (is_of place) link links ∙ (λ i. unit (one i) + rest i) ∙ sym (count_cons (λ (x : Dropped). same_row name x.name) d dropped)

-- ---- the rows that a row names

-- whether a place that is found is absent
abbrev pub absent_place : List ℕ → Option ℕ → Bool
absent_place causes None = false
absent_place causes (Some place) = is_absent causes place

pub absent_by_name : (place : RowName → Option ℕ) (causes : List ℕ) (k : ℕ) (links : List Link) (names : List Dropped) → pairs_of links ≡ deletes_at place names
    → absent_times links causes k ≡ count_by (λ (d : Dropped). absent_place causes (place d.name) && (d.position == k)) names
absent_by_name place causes k [] [] h = refl
absent_by_name place causes k [] (d ∷ names) h = absurd (cc)
absent_by_name place causes k (link ∷ links) [] h = absurd (cc)
absent_by_name place causes k (link ∷ links) (d ∷ names) h =
    let pair = pair_parts place link d links names h in
    count_cons (λ (l : Link). is_absent causes l.place && (l.number == k)) link links
    ∙ (λ i. unit (absent_place causes (pair.at i) && (pair.number i == k)) + absent_by_name place causes k links names pair.rest i)
    ∙ sym (count_cons (λ (x : Dropped). absent_place causes (place x.name) && (x.position == k)) d names)

module _ (rules : Rules) (t : RowName → Bool) (k : ℕ) where
  abbrev here : Dropped → Bool
  here d = t d.name && (d.position == k)

  and_false : (b : Bool) → (b && false) ≡ false
  and_false true = refl
  and_false false = refl

  and_true : (b : Bool) → (b && true) ≡ b
  and_true true = refl
  and_true false = refl

  elsewhere : (place : ℕ) → (place == k) ≡ false → (rs : List RowRef) → count_by here (map (λ r. dropped_at place r.name) rs) ≡ 0
  elsewhere place other [] = refl
  elsewhere place other (r ∷ rs) =
      count_cons here (dropped_at place r.name) (map (λ x. dropped_at place x.name) rs)
      ∙ (λ i. unit ((ap (λ b. t r.name && b) other ∙ and_false (t r.name)) i) + elsewhere place other rs i)

  at_place : (place : ℕ) → (place == k) ≡ true → (rs : List RowRef) → count_by here (map (λ r. dropped_at place r.name) rs) ≡ count_by (λ (r : RowRef). t r.name) rs
  at_place place same [] = refl
  at_place place same (r ∷ rs) =
      count_cons here (dropped_at place r.name) (map (λ x. dropped_at place x.name) rs)
      ∙ (λ i. unit ((ap (λ b. t r.name && b) same ∙ and_true (t r.name)) i) + at_place place same rs i)
      ∙ sym (count_cons (λ (x : RowRef). t x.name) r rs)

  behind : (place : ℕ) (rows : List Inserted) → k < place → count_by here (parents_from rules place rows) ≡ 0
  unfolding parents_from
  behind place [] below = refl
  behind place (it ∷ rows) below =
      let other : (place == k) ≡ false = false_from_ne_true _ (λ e. let same = eqb-true place k e in absurd (omega (arith, same, below))) in
      let a = count_append here (map (λ r. dropped_at place r.name) (cascade_refs rules (row_of it))) (parents_from rules (place + 1) rows) in
      let b = elsewhere place other (cascade_refs rules (row_of it)) in
      let c = behind (place + 1) rows (omega (arith, below)) in
      omega (arith, a, b, c)

  -- of all names, those that the row at a place names
  pub parents_counted : (place : ℕ) (rows : List Inserted) (m : ℕ) (it : Inserted) → slice_get rows m ≡ Some it → k ≡ place + m
      → count_by here (parents_from rules place rows) ≡ count_by (λ (r : RowRef). t r.name) (cascade_refs rules (row_of it))
  unfolding parents_from
  parents_counted place [] m it at is = absurd (cc)
  parents_counted place (row ∷ rows) zero it at is =
      let one : row ≡ it = cc in
      let same : (place == k) ≡ true = eq-eqb place k (omega (arith, is)) in
      let a = count_append here (map (λ r. dropped_at place r.name) (cascade_refs rules (row_of row))) (parents_from rules (place + 1) rows) in
      let b = at_place place same (cascade_refs rules (row_of row)) in
      let c = behind (place + 1) rows (omega (arith, is)) in
      let d = ap (λ (x : Inserted). count_by (λ (r : RowRef). t r.name) (cascade_refs rules (row_of x))) one in
      omega (arith, a, b, c, d)
  parents_counted place (row ∷ rows) (suc m) it at is =
      let other : (place == k) ≡ false = false_from_ne_true _ (λ e. let same = eqb-true place k e in absurd (omega (arith, same, is))) in
      let a = count_append here (map (λ r. dropped_at place r.name) (cascade_refs rules (row_of row))) (parents_from rules (place + 1) rows) in
      let b = elsewhere place other (cascade_refs rules (row_of row)) in
      let c = parents_counted (place + 1) rows m it at (omega (arith, is)) in
      omega (arith, a, b, c)

-- ---- which rows stand

-- whether a place that is found is before another
abbrev pub is_before : ℕ → Option ℕ → Bool
is_before k None = false
is_before k (Some j) = nat_lt j k

all_true : {X : Type 0} (xs : List X) → list_all (λ x. true) xs ≡ true
all_true [] = refl
all_true (x ∷ xs) = all_true xs

module _ (shapes : List Shape) (rows : List Inserted) (layered : are_layered (rules_over shapes) (reverse (map row_of rows)) ≡ true) where
  -- what a row names stands before it
  pub all_before : (k : ℕ) (it : Inserted) → slice_get rows k ≡ Some it → list_all (λ r. is_before k (place_of rows r.name)) (cascade_refs (rules_over shapes) (row_of it)) ≡ true
  all_before k it at =
      named_before shapes rows layered (λ name. is_before k (place_of rows name)) (λ name. true) k it at
      (λ j name found below. ap (is_before k) found ∙ (let lt : nat_lt j k ≡ true = grind (arith, nat_tests) in lt)) ∙ all_true (cascade_refs (rules_over shapes) (row_of it))

  -- The counts are settled, and a place has no cause of its own exactly where an update of the past inserted its row and none deletes it.
  module _ (past : ℕ → Bool) (gone : List RowName) (children : List Link) (named : pairs_of children ≡ deletes_at (place_of rows) (parents_from (rules_over shapes) 0 rows))
      (base : ℕ → ℕ) (causes : List ℕ) (settled : AreSettled shapes rows children base causes)
      (own : (k : ℕ) (it : Inserted) → slice_get rows k ≡ Some it → (base k == 0) ≡ (past it.position && not (list_any (same_row it.name) gone))) where
    abbrev pub did : Effects
    did = record { inserted = reverse (map row_of (filter (λ (it : Inserted). past it.position) rows)); deleted = gone }

    -- whether the count of the place that is found is 0
    abbrev stands_at : Option ℕ → Bool
    stands_at None = false
    stands_at (Some k) = get_or causes k 0 == 0

    abbrev pub seen : RowName → Bool
    seen name = stands_at (place_of rows name)

    hidden_refs : (k : ℕ) (it : Inserted) → slice_get rows k ≡ Some it → absent_times children causes k ≡ count_by (λ (r : RowRef). not (seen r.name)) (cascade_refs (rules_over shapes) (row_of it))
    hidden_refs k it at =
        absent_by_name (place_of rows) causes k children (parents_from (rules_over shapes) 0 rows) named
        ∙ parents_counted (rules_over shapes) (λ name. absent_place causes (place_of rows name)) k 0 rows k it at (omega arith)
        ∙ count_agree (λ (r : RowRef). is_before k (place_of rows r.name)) (λ (r : RowRef). absent_place causes (place_of rows r.name)) (λ (r : RowRef). not (seen r.name))
        (λ r before.
        let step : (o : Option ℕ) → is_before k o ≡ true → absent_place causes o ≡ not (stands_at o) = elim [ None ↦ λ h. absurd (cc) | Some j ↦ λ h. refl ] in
        step (place_of rows r.name) before)
        (cascade_refs (rules_over shapes) (row_of it)) (all_before k it at)

    refs_seen : (k : ℕ) (it : Inserted) → slice_get rows k ≡ Some it → (absent_times children causes k == 0) ≡ list_all (λ r. seen r.name) (cascade_refs (rules_over shapes) (row_of it))
    refs_seen k it at = ap (λ n. n == 0) (hidden_refs k it at) ∙ all_counted (λ (r : RowRef). seen r.name) (cascade_refs (rules_over shapes) (row_of it))

    moved : (a h d : Bool) → (a && (h && d)) ≡ (h && (a && d))
    moved true h d = refl
    moved false true d = refl
    moved false false d = refl

    -- a place is free where its row is a candidate
    free_is : (k : ℕ) (it : Inserted) → slice_get rows k ≡ Some it → is_free base children causes k ≡ (past it.position && is_candidate (rules_over shapes) did seen (row_of it))
    free_is k it at =
        sum_zero (base k) (absent_times children causes k) ∙ (λ i. refs_seen k it at i && own k it at i)
        ∙ moved (list_all (λ r. seen r.name) (cascade_refs (rules_over shapes) (row_of it))) (past it.position) (not (is_deleted did it.name))

    any_kept : (t p : TableRow → Bool) (f : ℕ → Bool) (n : ℕ) (xs : List Inserted) → ((m : ℕ) (it : Inserted) → slice_get xs m ≡ Some it → f (n + m) ≡ (past it.position && p (row_of it)))
        → any_from (λ place other. t (row_of other) && f place) n xs ≡ list_any (λ row. t row && p row) (map row_of (filter (λ (it : Inserted). past it.position) xs))
    any_kept t p f n [] h = refl
    any_kept t p f n (x ∷ xs) h =
        let rest = any_kept t p f (n + 1) xs (λ m it at. ap f (omega arith) ∙ h (suc m) it at) in
        let step : (b : Bool) → f n ≡ (b && p (row_of x))
        → ((t (row_of x) && f n) || any_from (λ place other. t (row_of other) && f place) (n + 1) xs)
        ≡ list_any (λ row. t row && p row) (map row_of (cond b (x ∷ filter (λ (it : Inserted). past it.position) xs) (filter (λ (it : Inserted). past it.position) xs))) =
        elim [
          | true ↦ λ e. λ i. (t (row_of x) && e i) || rest i
          | false ↦ λ e. (λ i. (t (row_of x) && e i) || rest i) ∙ ap (λ b. b || list_any (λ row. t row && p row) (map row_of (filter (λ (it : Inserted). past it.position) xs))) (none_too (t (row_of x)))
        ] in
        step (past x.position) (ap f (omega arith) ∙ h 0 x refl)
      where
        none_too : (b : Bool) → (b && false) ≡ false
        none_too true = refl
        none_too false = refl

    twice_not : (b : Bool) → not (not b) ≡ b
    twice_not true = refl
    twice_not false = refl

    -- a row is passed where it is not the least
    passed_is : (it : Inserted) → is_passed shapes rows (is_free base children causes) it ≡ not (is_least (rules_over shapes) did seen (row_of it))
    passed_is it =
        let step : (o : Option ℕ) → is_passed_in rows (is_free base children causes) it o ≡ not (is_least_in (rules_over shapes) did seen (row_of it) o) = elim [
          | None ↦ refl
          | Some column ↦
              any_kept (goes_before column (row_of it)) (is_candidate (rules_over shapes) did seen) (is_free base children causes) 0 rows (λ m other at. ap (is_free base children causes) (omega arith) ∙ free_is m other at)
              ∙ sym (any_reversed (λ row. goes_before column (row_of it) row && is_candidate (rules_over shapes) did seen row) (map row_of (filter (λ (x : Inserted). past x.position) rows)))
              ∙ sym (twice_not _)
        ] in
        step (kept_of (rules_over shapes) it.entry.table)

    one_zero : (b : Bool) → (one_where b == 0) ≡ not b
    one_zero true = refl
    one_zero false = refl

    count_zero : (k : ℕ) (it : Inserted) → slice_get rows k ≡ Some it
        → (get_or causes k 0 == 0) ≡ (past it.position && (is_candidate (rules_over shapes) did seen (row_of it) && is_least (rules_over shapes) did seen (row_of it)))
    count_zero k it at =
        ap (λ n. n == 0) (settled k ∙ ap (λ o. (base k + absent_times children causes k) + passed_by shapes rows (is_free base children causes) o) at)
        ∙ sum_zero (base k + absent_times children causes k) (one_where (is_passed shapes rows (is_free base children causes) it))
        ∙ (λ i. (one_zero (is_passed shapes rows (is_free base children causes) it) ∙ ap not (passed_is it) ∙ twice_not _) i && free_is k it at i)
        ∙ moved (is_least (rules_over shapes) did seen (row_of it)) (past it.position) (is_candidate (rules_over shapes) did seen (row_of it))
        ∙ ap (λ b. past it.position && b) (and_turned (is_least (rules_over shapes) did seen (row_of it)) (is_candidate (rules_over shapes) did seen (row_of it)))

    module _ (some : are_layered (rules_over shapes) did.inserted ≡ true) (rest : are_resting (rules_over shapes) did.inserted ≡ true) where
      seen_one : (k : ℕ) (it : Inserted) → slice_get rows k ≡ Some it → (get_or causes k 0 == 0) ≡ shows (rules_over shapes) did seen it.name
      seen_one k it at =
          let step : (b : Bool) → past it.position ≡ b → (get_or causes k 0 == 0) ≡ shows (rules_over shapes) did seen it.name = elim [
            | true ↦ λ e.
                count_zero k it at ∙ ap (λ b. b && (is_candidate (rules_over shapes) did seen (row_of it) && is_least (rules_over shapes) did seen (row_of it))) e
                ∙ sym (shows_one (rules_over shapes) did seen (row_of it) (left_in shapes rows past gone layered some rest k it at e))
            | false ↦ λ e.
                count_zero k it at ∙ ap (λ b. b && (is_candidate (rules_over shapes) did seen (row_of it) && is_least (rules_over shapes) did seen (row_of it))) e
                ∙ sym (shows_none (rules_over shapes) did seen it.name (left_out shapes rows past gone layered some rest k it at e))
          ] in
          step (past it.position) refl

      seen_shows : (name : RowName) → seen name ≡ shows (rules_over shapes) did seen name
      seen_shows name =
          let step : (o : Option ℕ) → place_of rows name ≡ o → stands_at o ≡ shows (rules_over shapes) did seen name = elim [
            | None ↦ λ e.
                sym (shows_none (rules_over shapes) did seen name
                (named_reversed (filter (λ (it : Inserted). past it.position) rows) name
                ∙ fewer_any (λ (it : Inserted). same_row it.name name) (λ (it : Inserted). past it.position) rows (sym (named_reversed rows name) ∙ unnamed_from_none rows name e)))
            | Some k ↦ λ e. let row = row_found rows name k e in seen_one k row.it row.at ∙ ap (shows (rules_over shapes) did seen) row.name_is
          ] in
          step (place_of rows name) refl

      -- those rows are visible whose count is 0
      pub seen_visible : (name : RowName) → seen name ≡ is_visible (rules_over shapes) did name
      seen_visible = visible_only (rules_over shapes) did (each_stands (rules_over shapes) did.inserted some) rest seen seen_shows

      pub mark_is : (k : ℕ) (it : Inserted) → slice_get rows k ≡ Some it → (get_or causes k 0 == 0) ≡ is_visible (rules_over shapes) did it.name
      mark_is k it at = sym (ap stands_at (found_layered (rules_over shapes) rows layered k it at)) ∙ seen_visible it.name

      -- the count of a row
      pub causes_are : (k : ℕ) (it : Inserted) → slice_get rows k ≡ Some it
          → get_or causes k 0 ≡ (base k + count_by (λ (r : RowRef). not (is_visible (rules_over shapes) did r.name)) (cascade_refs (rules_over shapes) (row_of it)))
          + one_where (not (is_least (rules_over shapes) did (is_visible (rules_over shapes) did) (row_of it)))
      causes_are k it at =
          settled k ∙ ap (λ o. (base k + absent_times children causes k) + passed_by shapes rows (is_free base children causes) o) at
          ∙ (λ i. (base k + hidden_refs k it at i) + one_where (passed_is it i))
          ∙ (λ i. (base k + count_by (λ (r : RowRef). not (seen_visible r.name i)) (cascade_refs (rules_over shapes) (row_of it))) + one_where (not (is_least (rules_over shapes) did (λ n. seen_visible n i) (row_of it))))

-- ---- the count of a row that tables keep

all_kept : {X : Type 0} (xs : List X) → filter (λ x. true) xs ≡ xs
all_kept [] = refl
all_kept (x ∷ xs) = ap (λ l. x ∷ l) (all_kept xs)

module _ (state : State) (places : BTreeMap RowName ℕ) (causes : List ℕ) (children deleters : Linked) (ends : List ℕ) (groups : Groups) (kept : IsKept state places causes children deleters ends groups) where
  abbrev names_gone : List RowName
  names_gone = reverse (map (λ (d : Dropped). d.name) state.dropped)

  deletes_are : (k : ℕ) (it : Inserted) → slice_get state.inserted k ≡ Some it → count_by (is_of k) deleters.links ≡ count_by (λ (d : Dropped). same_row it.name d.name) state.dropped
  deletes_are k it at = deleters_counted state.inserted k it.name (found_layered (rules_of_state state) state.inserted kept.layered k it at) deleters.links state.dropped kept.deleted

  own_now : (k : ℕ) (it : Inserted) → slice_get state.inserted k ≡ Some it → (count_by (is_of k) deleters.links == 0) ≡ (true && not (list_any (same_row it.name) names_gone))
  own_now k it at =
      ap (λ n. n == 0) (deletes_are k it at) ∙ none_counted (λ (d : Dropped). same_row it.name d.name) state.dropped
      ∙ ap not (sym (any_reversed (same_row it.name) (map (λ (d : Dropped). d.name) state.dropped) ∙ any_mapped (λ (d : Dropped). d.name) (same_row it.name) state.dropped))

  -- what all did is what those did that a past of all holds
  all_did : ◌≡◌ {A = Effects} (record { inserted = reverse (map row_of (filter (λ (it : Inserted). true) state.inserted)); deleted = names_gone }) (done_in state)
  all_did = λ i. record { inserted = reverse (map row_of (all_kept state.inserted i)); deleted = names_gone }

  resting_all : are_resting (rules_of_state state) (done_in state).inserted ≡ true
  resting_all = resting_now kept.held.rules kept.held.nodes state kept.held.is

  pub mark_kept : (k : ℕ) (it : Inserted) → slice_get state.inserted k ≡ Some it → (get_or causes k 0 == 0) ≡ is_visible (rules_of_state state) (done_in state) it.name
  mark_kept k it at =
      mark_is state.shapes state.inserted kept.layered (λ p. true) names_gone children.links kept.named (λ n. count_by (is_of n) deleters.links) causes kept.counted own_now
      (ap (λ (g : Effects). are_layered (rules_of_state state) g.inserted) all_did ∙ kept.layered) (ap (λ (g : Effects). are_resting (rules_of_state state) g.inserted) all_did ∙ resting_all) k it at
      ∙ ap (λ (g : Effects). is_visible (rules_of_state state) g it.name) all_did

  -- the same of a count that is read
  pub mark_read : (n k : ℕ) (it : Inserted) → slice_get state.inserted k ≡ Some it → n ≡ get_or causes k n → (n == 0) ≡ is_visible (rules_of_state state) (done_in state) it.name
  mark_read n k it at is =
      let below = slice_get_below state.inserted k it at in
      ap (λ m. m == 0) (is ∙ default_free causes k n 0 (omega (arith, below, kept.each))) ∙ mark_kept k it at

  -- the same, found by its name
  pub mark_found : (name : RowName) (k : ℕ) → place_of state.inserted name ≡ Some k → (n : ℕ) → n ≡ get_or causes k n → (n == 0) ≡ is_visible (rules_of_state state) (done_in state) name
  mark_found name k found n is =
      let row = row_found state.inserted name k found in
      mark_read n k row.it row.at is ∙ ap (is_visible (rules_of_state state) (done_in state)) row.name_is

  pub causes_kept : (k : ℕ) (it : Inserted) → slice_get state.inserted k ≡ Some it
      → get_or causes k 0 ≡ (count_by (λ (d : Dropped). same_row it.name d.name) state.dropped + count_by (λ (r : RowRef). not (is_visible (rules_of_state state) (done_in state) r.name)) (cascade_refs (rules_of_state state) (row_of it)))
      + one_where (not (is_least (rules_of_state state) (done_in state) (is_visible (rules_of_state state) (done_in state)) (row_of it)))
  causes_kept k it at =
      causes_are state.shapes state.inserted kept.layered (λ p. true) names_gone children.links kept.named (λ n. count_by (is_of n) deleters.links) causes kept.counted own_now
      (ap (λ (g : Effects). are_layered (rules_of_state state) g.inserted) all_did ∙ kept.layered) (ap (λ (g : Effects). are_resting (rules_of_state state) g.inserted) all_did ∙ resting_all) k it at
      ∙ (λ i. (deletes_are k it at i + count_by (λ (r : RowRef). not (is_visible (rules_of_state state) (all_did i) r.name)) (cascade_refs (rules_of_state state) (row_of it)))
      + one_where (not (is_least (rules_of_state state) (all_did i) (is_visible (rules_of_state state) (all_did i)) (row_of it))))
