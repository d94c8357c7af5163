-- How many rows with a value are visible after an update's ancestors.
use Rattle.std.proofs.Common.{◌≡◌, ◌≢◌, ℕ, zero, suc, ◌+◌, ◌<◌, ◌≤◌, ◌==◌, Bool, true, false, cond, ◌&&◌, List, [], ◌∷◌, ◌++◌, length, get_or, take, refl, sym, ap, ◌∙◌, subst, Option, Some, None, inl, inr, arith}
use Rattle.std.specs.Prelude.{count_by, is_some, slice_get}
use Rattle.std.specs.List.{list_any, position_from}
use Rattle.std.proofs.lemmas.Bool.{and_parts, both_ways, eq-eqb, eqb-true, false_from_ne_true}
use Rattle.std.proofs.lemmas.List.{take_all, take_more}
use Rattle.std.proofs.lemmas.List.Sums.{sum_by_push}
use Rattle.update_model.specs.declared.value.Value.{Value}
use Rattle.update_model.proofs.Closed.{is_some-position}
use Rattle.row_check.specs.declared.cmp.Cmp.TheVariants as cmp
use Rattle.row_check.specs.Comparisons.{compares}
use Rattle.row_check.specs.Meaning.{value_at}
use Rattle.table_model.specs.Counts.{one_where}
use Rattle.table_model.specs.Verdicts.{in_table}
use Rattle.table_model.specs.Visible.{TableRow, is_visible, kept_of}
use Rattle.table_model.proofs.EqualValues.{equal_back, equal_both, equal_on}
use Rattle.table_model.proofs.Settled.{are_resting}
use Rattle.table_model.proofs.Standing.{bool_same}
use Rattle.tuple_state.specs.declared.groups.Groups.{Groups}
use Rattle.tuple_state.specs.declared.inserted.Inserted.{Inserted}
use Rattle.tuple_state.specs.declared.shape.Shape.{Shape}
use Rattle.tuple_state.specs.Kept.{are_layered}
use Rattle.tuple_state.specs.Known.{count_to}
use Rattle.tuple_state.specs.Least.{AreGrouped}
use Rattle.tuple_state.specs.Past.{done_then, equal_then, visible_then}
use Rattle.tuple_state.specs.State.{State, done_in, row_of, rules_of_state, rules_over}
use Rattle.tuple_state.specs.Values.{has_at}
use Rattle.tuple_state.proofs.Counting.{count_is, seen_at, seen_on}
use Rattle.tuple_state.proofs.Dropping.{row_there}
use Rattle.tuple_state.proofs.Grouping.{below_or, group_same, none_passes, same_or}
use Rattle.tuple_state.proofs.Lookups.{FoundAt, found_at, get_or_from}
use Rattle.tuple_state.proofs.Marking.{slice_get_below}

-- ---- counts of numbers

pub count_few : (f : ℕ → Bool) (n : ℕ) → count_to f n ≤ n
unfolding count_to
count_few f zero = omega arith
count_few f (suc n) =
    let rest = count_few f n in
    let one : (b : Bool) → one_where b ≤ 1 = elim [ true ↦ omega arith | false ↦ omega arith ] in
    let last = one (f n) in
    omega (arith, rest, last)

pub none_yet : (f : ℕ → Bool) → 0 ≡ count_to f 0
unfolding count_to
none_yet f = refl

-- one more number
pub one_counted : (f : ℕ → Bool) (n m : ℕ) (b : Bool) → m ≡ count_to f n → f n ≡ b → m + cond b 1 0 ≡ count_to f (n + 1)
unfolding count_to
one_counted f n m b before is =
    let one : (b : Bool) → cond b 1 0 ≡ one_where b = elim [ true ↦ refl | false ↦ refl ] in
    let next : suc n ≡ n + 1 = omega arith in
    (λ i. before i + (one b ∙ ap one_where (sym is)) i) ∙ ap (count_to f) next

pub not_counted : (f : ℕ → Bool) (n m : ℕ) → m ≡ count_to f n → f n ≡ false → m ≡ count_to f (n + 1)
not_counted f n m before is = let more = one_counted f n m false before is in omega (arith, more)

-- a count over the first rows, by their places
count_front : (f : ℕ → Bool) (t : Inserted → Bool) (rows : List Inserted) → ((k : ℕ) (it : Inserted) → slice_get rows k ≡ Some it → f k ≡ t it) → (n : ℕ) → n ≤ length rows → count_to f n ≡ count_by t (take n rows)
unfolding count_to
count_front f t rows same zero low = refl
count_front f t rows same (suc n) low =
    let row = row_there rows n (omega (arith, low)) in
    let rest = count_front f t rows same n (omega (arith, low)) in
    let one : (b : Bool) → one_where b ≡ cond b 1 0 = elim [ true ↦ refl | false ↦ refl ] in
    let last : take (n + 1) rows ≡ take n rows ++ row.0 ∷ [] = take_more rows n row.0 (omega (arith, low)) ∙ ap (λ (x : Inserted). take n rows ++ x ∷ []) (get_or_from rows n row.0 row.0 row.1) in
    let next : suc n ≡ n + 1 = omega arith in
    (λ i. rest i + (ap one_where (same n row.0 row.1) ∙ one (t row.0)) i)
    ∙ sym (ap (λ m. count_by t (take m rows)) next ∙ ap (count_by t) last ∙ sum_by_push (λ x. cond (t x) 1 0) (take n rows) row.0)

pub count_all : (f : ℕ → Bool) (t : Inserted → Bool) (rows : List Inserted) → ((k : ℕ) (it : Inserted) → slice_get rows k ≡ Some it → f k ≡ t it) → count_to f (length rows) ≡ count_by t rows
count_all f t rows same = count_front f t rows same (length rows) (omega arith) ∙ ap (count_by t) (take_all (length rows) rows (omega arith))

none_counted : (n : ℕ) → count_to (λ k. false) n ≡ 0
unfolding count_to
none_counted zero = refl
none_counted (suc n) = let rest = none_counted n in omega (arith, rest)

-- ---- the group of the rows with a value

fails_before : {X : Type 0} (t : X → Bool) (i : ℕ) (xs : List X) (k j : ℕ) (x : X) → position_from t i xs ≡ Some k → i + j < k → slice_get xs j ≡ Some x → t x ≡ false
fails_before t i [] k j x found low at = absurd cc
fails_before t i (y ∷ ys) k j x found low at =
    let step : (b : Bool) (n : ℕ) → t y ≡ b → cond b (Some i) (position_from t (i + 1) ys) ≡ Some k → j ≡ n → slice_get (y ∷ ys) n ≡ Some x → t x ≡ false = elim [
      | true ↦ λ n e f here there. let same : i ≡ k = cc in absurd (omega (arith, same, low))
      | false ↦ elim [
        | zero ↦ λ e f here there. let same : y ≡ x = cc in ap t (sym same) ∙ e
        | suc n ↦ λ e f here there. fails_before t (i + 1) ys k n x f (omega (arith, low, here)) there
      ]
    ] in
    step (t y) j refl found refl at

module _ (shapes : List Shape) (rows : List Inserted) (groups : List ℕ) (grouped : AreGrouped shapes rows groups) (all : length groups ≡ length rows) (table column place : ℕ) (v : Value)
    (kept : kept_of (rules_over shapes) table ≡ Some column) (found : position_from (has_at table column v) 0 rows ≡ Some place) where
  first : FoundAt (has_at table column v) 0 rows place
  first = found_at (has_at table column v) 0 rows place found

  there : slice_get rows place ≡ Some first.it
  there = ap (slice_get rows) (let e : place ≡ first.off = omega (arith, first.is) in e) ∙ first.at

  pub first_inside : place < length rows
  first_inside = omega (arith, first.is, first.below)

  of_table : first.it.entry.table ≡ table
  of_table = eqb-true first.it.entry.table table (and_parts (first.it.entry.table == table) _ first.passes).0

  has : compares cmp.Eq (value_at first.it.entry.values column) v ≡ true
  has = (and_parts (first.it.entry.table == table) _ first.passes).1

  -- it is the place of its first row
  root : get_or groups place 0 ≡ place
  root =
      let r = get_or groups place 0 in
      let low = grouped.inside place (omega (arith, all, first_inside)) in
      elim (below_or r place) [
        | inl before ↦
            let row = row_there rows r (omega (arith, before, first_inside)) in
            let own = grouped.own place (omega (arith, all, first_inside)) in
            let same = grouped.apart r place row.0 first.it (omega (arith, all, before, first_inside)) (omega (arith, all, first_inside)) row.1 there own in
            let alike = sym (eq-eqb (get_or groups r 0) (get_or groups place 0) own) ∙ grouped.alike r place column row.0 first.it before (omega (arith, all, first_inside)) row.1 there same (ap (kept_of (rules_over shapes)) of_table ∙ kept) in
            let equal = equal_on (value_at row.0.entry.values column) (value_at first.it.entry.values column) v (sym alike) has in
            let passes : has_at table column v row.0 ≡ true = (λ i. eq-eqb row.0.entry.table table (same ∙ of_table) i && equal i) in
            absurd (both_ways _ (fails_before (has_at table column v) 0 rows place r row.0 found (omega (arith, before)) row.1) passes)
        | inr after ↦ omega (arith, low, after)
      ]

  pub group_is : (k : ℕ) (it : Inserted) → slice_get rows k ≡ Some it → k < length rows → (get_or groups k 0 == place) ≡ has_at table column v it
  group_is k it at inside =
      elim (same_or k place) [
        | inl same ↦
            let two : Some it ≡ Some first.it = sym at ∙ ap (slice_get rows) same ∙ there in
            let one : it ≡ first.it = cc in
            eq-eqb (get_or groups k 0) place (ap (λ n. get_or groups n 0) same ∙ root) ∙ sym (ap (has_at table column v) one ∙ first.passes)
        | inr ne ↦
            let step : (b : Bool) → (it.entry.table == table) ≡ b → (get_or groups k 0 == place) ≡ has_at table column v it = elim [
              | true ↦ λ e.
                  let one = eqb-true it.entry.table table e in
                  let equal : compares cmp.Eq (value_at first.it.entry.values column) (value_at it.entry.values column) ≡ compares cmp.Eq (value_at it.entry.values column) v =
                  bool_same (compares cmp.Eq (value_at first.it.entry.values column) (value_at it.entry.values column)) (compares cmp.Eq (value_at it.entry.values column) v)
                  (λ h. equal_on (value_at it.entry.values column) (value_at first.it.entry.values column) v (equal_back (value_at it.entry.values column) (value_at first.it.entry.values column) ∙ h) has)
                  (λ h. equal_both v (value_at first.it.entry.values column) (value_at it.entry.values column) (equal_back v (value_at first.it.entry.values column) ∙ has) (equal_back v (value_at it.entry.values column) ∙ h)) in
                  ap (λ n. get_or groups k 0 == n) (sym root)
                  ∙ group_same shapes rows groups grouped k place column it first.it ne (omega (arith, all, inside)) (omega (arith, all, first_inside)) at there (one ∙ sym of_table) (ap (kept_of (rules_over shapes)) of_table ∙ kept)
                  ∙ equal ∙ sym (ap (λ b. b && compares cmp.Eq (value_at it.entry.values column) v) e)
              | false ↦ λ e.
                  false_from_ne_true _ (λ h.
                  let own = grouped.apart k place it first.it (omega (arith, all, inside)) (omega (arith, all, first_inside)) at there (eqb-true (get_or groups k 0) place h ∙ sym root) in
                  both_ways _ e (eq-eqb it.entry.table table (own ∙ of_table)))
                  ∙ sym (ap (λ b. b && compares cmp.Eq (value_at it.entry.values column) v) e)
            ] in
            step (it.entry.table == table) refl
      ]

-- ---- the visible rows with a value

module _ (state : State) (past : ℕ → Bool) (all : are_layered (rules_of_state state) (done_in state).inserted ≡ true) (some : are_layered (rules_of_state state) (done_then state past).inserted ≡ true)
    (rest : are_resting (rules_of_state state) (done_then state past).inserted ≡ true) (table column : ℕ) (v : Value) where
  abbrev passes : TableRow → Bool
  passes row = in_table table row && compares cmp.Eq (value_at row.values column) v

  -- as many are visible as there are places whose rows are
  equal_places : (f : ℕ → Bool) → ((k : ℕ) (it : Inserted) → slice_get state.inserted k ≡ Some it → f k ≡ (is_visible (rules_of_state state) (done_then state past) it.name && has_at table column v it))
      → count_to f (length state.inserted) ≡ equal_then state past table column v
  equal_places f same =
      count_all f (seen_on state past passes) state.inserted (λ k it at. same k it at ∙ sym (seen_at state past passes all some rest k it _ at refl)) ∙ sym (count_is state past passes)

  pub shown_is : (groups causes : List ℕ) → AreGrouped state.shapes state.inserted groups → length groups ≡ length state.inserted
      → ((k : ℕ) (it : Inserted) → slice_get state.inserted k ≡ Some it → (get_or causes k 0 == 0) ≡ is_visible (rules_of_state state) (done_then state past) it.name)
      → (place : ℕ) → kept_of (rules_of_state state) table ≡ Some column → position_from (has_at table column v) 0 state.inserted ≡ Some place
      → count_to (λ k. (get_or causes k 0 == 0) && (get_or groups k 0 == place)) (length groups) ≡ equal_then state past table column v
  shown_is groups causes grouped sized seen place kept found =
      ap (count_to (λ k. (get_or causes k 0 == 0) && (get_or groups k 0 == place))) sized
      ∙ equal_places (λ k. (get_or causes k 0 == 0) && (get_or groups k 0 == place))
      (λ k it at. λ i. seen k it at i && group_is state.shapes state.inserted groups grouped sized table column place v kept found k it at (slice_get_below state.inserted k it at) i)

  pub none_shown : position_from (has_at table column v) 0 state.inserted ≡ None → 0 ≡ equal_then state past table column v
  none_shown none =
      let fails : list_any (has_at table column v) state.inserted ≡ false = sym (is_some-position (has_at table column v) 0 state.inserted) ∙ ap is_some none in
      let out : (b : Bool) → (b && false) ≡ false = elim [ true ↦ refl | false ↦ refl ] in
      sym (none_counted (length state.inserted))
      ∙ equal_places (λ k. false) (λ k it at.
      sym (ap (λ b. is_visible (rules_of_state state) (done_then state past) it.name && b) (none_passes (has_at table column v) state.inserted k it fails at) ∙ out (is_visible (rules_of_state state) (done_then state past) it.name)))
