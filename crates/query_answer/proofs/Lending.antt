-- The rows that a query goes over, and the lists that have them in order.
use Rattle.std.proofs.Common.{◌≡◌, ◌∙◌, ℕ, zero, suc, ◌+◌, ◌<◌, ◌≤◌, Bool, Bor, true, false, cond, List, [], ◌∷◌, ◌++◌, append-nil, filter, length, get_or, map, nat_lt, take, drop, Option, Some, None, refl, sym, ap, subst, arith}
use Rattle.std.specs.Prelude.{All, Contains, option_to_list, slice_get, unwrap_or}
use Rattle.std.specs.Cmp.{IsTotalOrder}
use Rattle.std.specs.List.{AllByRecursion, IsDistinct}
use Rattle.std.specs.List.Sorted.{IsPermutation}
use Rattle.std.specs.Ordering.{eq_by_cmp, is_eq, is_gt, is_lt}
use Rattle.std.specs.declared.cmp.Ordering.{Ordering}
use Rattle.std.specs.declared.cmp.Ordering.TheVariants.{Less, Equal, Greater}
use Rattle.std.proofs.lemmas.Bool.{ltb-true, ltb-false}
use Rattle.std.proofs.lemmas.Cmp.{eq_by_cmp_equiv, on_total}
use Rattle.std.proofs.lemmas.List.{map-append, take-append-drop}
use Rattle.std.proofs.lemmas.List.Elements.{All-from_recursion, filter-append}
use Rattle.std.proofs.lemmas.List.Sorted.{All-permutation, Contains-permutation, IsPermutation-append_left, IsPermutation-cons, IsPermutation-map, IsPermutation-middle, IsPermutation-refl, IsPermutation-sym, IsPermutation-trans}
use Rattle.std.proofs.lemmas.Map.Keys.{IsDistinct-IsPermutation, IsDistinct-from_sorted}
use Rattle.std.proofs.lemmas.Option.{slice_get_past}
use Rattle.update_model.specs.Node.{NodeData}
use Rattle.update_model.specs.declared.row_name.RowName.{RowName}
use Rattle.table_model.specs.declared.shown_row.ShownRow.{ShownRow}
use Rattle.table_model.specs.Tables.{AreRowsIn, HasDistinctNames, name_cmp}
use Rattle.table_model.specs.Visible.{Rules, same_row}
use Rattle.table_model.proofs.Rising.{name_cmp_total, rising_from_sort, same_name}
use Rattle.tuple_state.specs.declared.inserted.Inserted.{Inserted}
use Rattle.tuple_state.specs.Arrived.{arrived, is_listed, line_of, listed_rows}
use Rattle.tuple_state.specs.State.{IsStateOf, State}
use Rattle.tuple_state.proofs.Listing.{arrived_distinct, arrived_shown}
use Rattle.query_answer.specs.declared.rows.Rows.{Rows}
use Rattle.query_answer.specs.declared.rows.Rows.TheVariants as rows
use Rattle.query_answer.specs.Answers.{AreShown}
use Rattle.query_answer.specs.InOrder.{in_order, put, put_all}
use Rattle.query_answer.specs.Rows.{AreListsOf, by_name, row_at, rows_before, rows_of}
use Rattle.query_answer.specs.Values.{AreRising, row_named, rows_in}
use Rattle.query_answer.proofs.Fronts.{in_order_permutes, in_order_sorted}
use Rattle.query_answer.proofs.InOrder.{Climbs, climbing_in_order}
use Rattle.query_answer.proofs.Looking.{Rises, found_nowhere, found_there, rises}
use Rattle.query_answer.proofs.Showing.{shown_rising}

pub by_name_total : IsTotalOrder by_name
by_name_total = on_total (λ (row : ShownRow). row.name) name_cmp_total

-- ---- place after place

take_next : {X : Type 0} (n : ℕ) (xs : List X) → take (suc n) xs ≡ take n xs ++ option_to_list (slice_get xs n)
take_next zero [] = refl
take_next (suc n) [] = refl
take_next zero (x ∷ xs) = refl
take_next {X} (suc n) (x ∷ xs) = ap (λ (ys : List X). x ∷ ys) (take_next n xs)

listed_both : (state : State) (table : ℕ) (xs ys : List Inserted) → listed_rows state table (xs ++ ys) ≡ listed_rows state table xs ++ listed_rows state table ys
listed_both state table xs ys =
    ap (map (line_of state)) (filter-append (is_listed state table) xs ys) ∙ map-append (line_of state) (filter (is_listed state table) xs) (filter (is_listed state table) ys)

one_more : (n : ℕ) → n + 1 ≡ suc n
one_more n = omega arith

pub rows_next : (rs : Rows) (table place : ℕ) → rows_before rs table (place + 1) ≡ rows_before rs table place ++ row_at rs table place
rows_next (rows.Listed lists) table place = ap (λ (n : ℕ). take n (rows_in lists.now table)) (one_more place) ∙ take_next place (rows_in lists.now table)
rows_next (rows.Lent tables count) table place = step (nat_lt table count)
  where
    step : (b : Bool) → cond b (listed_rows tables.now table (take (place + 1) tables.now.inserted)) []
        ≡ cond b (listed_rows tables.now table (take place tables.now.inserted)) [] ++ cond b (listed_rows tables.now table (option_to_list (slice_get tables.now.inserted place))) []
    step true =
        ap (λ (n : ℕ). listed_rows tables.now table (take n tables.now.inserted)) (one_more place)
        ∙ ap (listed_rows tables.now table) (take_next place tables.now.inserted)
        ∙ listed_both tables.now table (take place tables.now.inserted) (option_to_list (slice_get tables.now.inserted place))
    step false = refl

pub rows_start : (rs : Rows) (table : ℕ) → rows_before rs table 0 ≡ []
rows_start (rows.Listed lists) table = refl
rows_start (rows.Lent tables count) table = step (nat_lt table count)
  where
    step : (b : Bool) → cond b (listed_rows tables.now table []) [] ≡ []
    step true = refl
    step false = refl

-- the rows before a place stand first
record RestOf (rs : Rows) (table place : ℕ) : Type 0 where
  pub rest : List ShownRow
  pub is : rows_before rs table place ++ rest ≡ rows_of rs table

rest_of : (rs : Rows) (table place : ℕ) → RestOf rs table place
rest_of (rows.Listed lists) table place = record { rest = drop place (rows_in lists.now table); is = take-append-drop place (rows_in lists.now table) }
rest_of (rows.Lent tables count) table place = record { rest = cond (nat_lt table count) (listed_rows tables.now table (drop place tables.now.inserted)) []; is = step (nat_lt table count) }
  where
    step : (b : Bool) → cond b (listed_rows tables.now table (take place tables.now.inserted)) [] ++ cond b (listed_rows tables.now table (drop place tables.now.inserted)) []
        ≡ cond b (arrived tables.now table) []
    step true =
        sym (listed_both tables.now table (take place tables.now.inserted) (drop place tables.now.inserted))
        ∙ ap (listed_rows tables.now table) (take-append-drop place tables.now.inserted)
    step false = refl

-- ---- names

distinct_fore : (xs ys : List ShownRow) → HasDistinctNames (xs ++ ys) → HasDistinctNames xs
unfolding IsDistinct
distinct_fore [] ys h = tt
distinct_fore (x ∷ xs) ys h = (each xs h.0, distinct_fore xs ys h.1)
  where
    each : (zs : List ShownRow) → AllByRecursion (λ other. eq_by_cmp name_cmp x.name other ≡ false) (map (λ row. row.name) (zs ++ ys))
        → AllByRecursion (λ other. eq_by_cmp name_cmp x.name other ≡ false) (map (λ row. row.name) zs)
    each [] h = tt
    each (z ∷ zs) h = (h.0, each zs h.1)

names_differ : (rs : Rows) (lists : List (List ShownRow)) → AreListsOf rs lists → (table : ℕ) → HasDistinctNames (rows_of rs table)
names_differ rs lists are table =
    let sorted = rows_in lists table in
    let moved : IsPermutation sorted (rows_of rs table) = subst (λ (xs : List ShownRow). IsPermutation xs (rows_of rs table)) (sym (are.exact table)) (in_order_permutes by_name by_name_total (rows_of rs table)) in
    IsDistinct-IsPermutation (eq_by_cmp name_cmp) ((eq_by_cmp_equiv name_cmp_total).symm) (map (λ (row : ShownRow). row.name) sorted) (map (λ (row : ShownRow). row.name) (rows_of rs table))
    (IsPermutation-map (λ (row : ShownRow). row.name) sorted (rows_of rs table) moved) (IsDistinct-from_sorted name_cmp (map (λ (row : ShownRow). row.name) sorted) (are.rising table))

pub before_differ : (rs : Rows) (lists : List (List ShownRow)) → AreListsOf rs lists → (table place : ℕ) → HasDistinctNames (rows_before rs table place)
before_differ rs lists are table place =
    let rest = rest_of rs table place in
    distinct_fore (rows_before rs table place) rest.rest (subst HasDistinctNames (sym rest.is) (names_differ rs lists are table))

-- ---- the row with a name

none_named : (name : RowName) (xs : List ShownRow) → row_named xs name ≡ None → AllByRecursion (λ row. same_row row.name name ≡ false) xs
none_named name [] h = tt
none_named name (x ∷ xs) h =
    elim (same_row x.name name) as (λ b. same_row x.name name ≡ b → cond b (Some x) (row_named xs name) ≡ None → AllByRecursion (λ row. same_row row.name name ≡ false) (x ∷ xs)) [
      | true ↦ λ e g. absurd cc
      | false ↦ λ e g. (e, none_named name xs g)
    ] refl h

named_is : (name : RowName) (xs : List ShownRow) (r : ShownRow) → row_named xs name ≡ Some r → Contains xs r × (same_row r.name name ≡ true)
named_is name [] r h = absurd cc
named_is name (x ∷ xs) r h =
    elim (same_row x.name name) as (λ b. same_row x.name name ≡ b → cond b (Some x) (row_named xs name) ≡ Some r → Contains (x ∷ xs) r × (same_row r.name name ≡ true)) [
      | true ↦ λ e g. let same : x ≡ r = cc in ((0, omega arith, same), ap (λ (row : ShownRow). same_row row.name name) (sym same) ∙ e)
      | false ↦ λ e g. let rest = named_is name xs r g in ((suc rest.0.0, omega (arith, rest.0.1), rest.0.2), rest.1)
    ] refl h

equal_from : (o : Ordering) → is_eq o ≡ true → o ≡ Equal
equal_from Less e = absurd cc
equal_from Equal e = refl
equal_from Greater e = absurd cc

found_in_order : (name : RowName) (xs : List ShownRow) → Rises (in_order by_name xs) → row_named (in_order by_name xs) name ≡ row_named xs name
found_in_order name xs rise = step (row_named xs name) refl
  where
    sorted : List ShownRow
    sorted = in_order by_name xs

    moved : IsPermutation xs sorted
    moved = IsPermutation-sym sorted xs (in_order_permutes by_name by_name_total xs)

    step : (found : Option ShownRow) → row_named xs name ≡ found → row_named sorted name ≡ found
    step None e =
        let all : All (λ (row : ShownRow). same_row row.name name ≡ false) sorted =
        All-permutation (λ (row : ShownRow). same_row row.name name ≡ false) xs sorted moved (All-from_recursion (λ (row : ShownRow). same_row row.name name ≡ false) xs (none_named name xs e)) in
        found_nowhere sorted name (λ k d low. same_name (get_or sorted k d).name name ∙ all k d low)
    step (Some r) e =
        let both = named_is name xs r e in
        let there = Contains-permutation xs sorted r moved both.0 in
        let it : get_or sorted there.0 r ≡ r = there.2 in
        let equal : name_cmp r.name name ≡ Equal = equal_from (name_cmp r.name name) (same_name r.name name ∙ both.1) in
        found_there sorted name there.0 r rise there.1 (ap (λ (row : ShownRow). name_cmp row.name name) it ∙ equal) ∙ ap Some it

pub named_listed : (rs : Rows) (lists : List (List ShownRow)) → AreListsOf rs lists → (table : ℕ) (name : RowName) → row_named (rows_of rs table) name ≡ row_named (rows_in lists table) name
named_listed rs lists are table name =
    let same = are.exact table in
    let rise : Rises (in_order by_name (rows_of rs table)) = subst Rises same (rises (rows_in lists table) (are.rising table)) in
    sym (found_in_order name (rows_of rs table) rise) ∙ ap (λ (xs : List ShownRow). row_named xs name) (sym same)

-- ---- those that are asked for

module _ (p : ShownRow → Bool) where
  kept_put : (x : ShownRow) (ys : List ShownRow) → IsPermutation (filter p (put by_name x ys)) (filter p (x ∷ ys))
  kept_put x [] = IsPermutation-refl (filter p (x ∷ []))
  kept_put x (y ∷ ys) = step (is_lt (by_name x y)) (kept_put x ys)
    where
      inner : (a b : Bool) → IsPermutation (filter p (put by_name x ys)) (cond a (x ∷ filter p ys) (filter p ys))
          → IsPermutation (cond b (y ∷ filter p (put by_name x ys)) (filter p (put by_name x ys))) (cond a (x ∷ cond b (y ∷ filter p ys) (filter p ys)) (cond b (y ∷ filter p ys) (filter p ys)))
      inner true true h =
          IsPermutation-trans (y ∷ filter p (put by_name x ys)) (y ∷ x ∷ filter p ys) (x ∷ y ∷ filter p ys) (IsPermutation-cons y (filter p (put by_name x ys)) (x ∷ filter p ys) h)
          (IsPermutation-middle (y ∷ []) x (filter p ys))
      inner true false h = h
      inner false true h = IsPermutation-cons y (filter p (put by_name x ys)) (filter p ys) h
      inner false false h = h

      step : (c : Bool) → IsPermutation (filter p (put by_name x ys)) (filter p (x ∷ ys)) → IsPermutation (filter p (cond c (x ∷ y ∷ ys) (y ∷ put by_name x ys))) (filter p (x ∷ y ∷ ys))
      step true h = IsPermutation-refl (filter p (x ∷ y ∷ ys))
      step false h = inner (p x) (p y) h

  kept_all : (sorted xs : List ShownRow) → IsPermutation (filter p (put_all by_name sorted xs)) (filter p sorted ++ filter p xs)
  kept_all sorted [] = subst (IsPermutation (filter p sorted)) (sym (append-nil (filter p sorted))) (IsPermutation-refl (filter p sorted))
  kept_all sorted (x ∷ xs) =
      IsPermutation-trans (filter p (put_all by_name (put by_name x sorted) xs)) (filter p (put by_name x sorted) ++ filter p xs) (filter p sorted ++ filter p (x ∷ xs)) (kept_all (put by_name x sorted) xs)
      (IsPermutation-trans (filter p (put by_name x sorted) ++ filter p xs) (filter p (x ∷ sorted) ++ filter p xs) (filter p sorted ++ filter p (x ∷ xs))
      (IsPermutation-append_left (filter p xs) (filter p (put by_name x sorted)) (filter p (x ∷ sorted)) (kept_put x sorted)) (last (p x)))
    where
      last : (b : Bool) → IsPermutation (cond b (x ∷ filter p sorted) (filter p sorted) ++ filter p xs) (filter p sorted ++ cond b (x ∷ filter p xs) (filter p xs))
      last true = IsPermutation-sym (filter p sorted ++ x ∷ filter p xs) (x ∷ (filter p sorted ++ filter p xs)) (IsPermutation-middle (filter p sorted) x (filter p xs))
      last false = IsPermutation-refl (filter p sorted ++ filter p xs)

  -- rows that are put in order by name keep those that pass
  pub kept_listed : (rs : Rows) (lists : List (List ShownRow)) → AreListsOf rs lists → (table : ℕ) → IsPermutation (filter p (rows_of rs table)) (filter p (rows_in lists table))
  kept_listed rs lists are table =
      let xs = rows_of rs table in
      subst (λ (ys : List ShownRow). IsPermutation (filter p xs) (filter p ys)) (sym (are.exact table))
      (IsPermutation-sym (filter p (in_order by_name xs)) (filter p xs) (kept_all [] xs))

-- ---- lists that are there

under_all : (row : ShownRow) (xs : List ShownRow) → AllByRecursion (λ other. name_cmp row.name other.name ≡ Less) xs → AllByRecursion (λ other. is_gt (by_name row other) ≡ false) xs
under_all row [] h = tt
under_all row (x ∷ xs) h = (ap is_gt h.0, under_all row xs h.1)

climbs : (xs : List ShownRow) → Rises xs → Climbs by_name by_name_total xs
climbs [] h = tt
climbs (x ∷ xs) h = (under_all x xs h.0, climbs xs h.1)

-- lists that rise are themselves
pub lists_listed : (lists : Bor (List (List ShownRow))) → AreRising lists.now → AreListsOf (rows.Listed lists) lists.now
lists_listed lists rising = record {
  sound = rising;
  rising = rising;
  exact = λ table. sym (climbing_in_order by_name by_name_total (rows_in lists.now table) (climbs (rows_in lists.now table) (rises (rows_in lists.now table) (rising table))));
}

-- so many tables from one on, each in order
abbrev pub lists_from : State → ℕ → ℕ → List (List ShownRow)
lists_from state k zero = []
lists_from state k (suc n) = in_order by_name (arrived state k) ∷ lists_from state (suc k) n

module _ (state : State) where
  many : (k n : ℕ) → length (lists_from state k n) ≡ n
  many k zero = refl
  many k (suc n) = ap suc (many (suc k) n)

  there : (k n i : ℕ) → i < n → slice_get (lists_from state k n) i ≡ Some (in_order by_name (arrived state (k + i)))
  there k zero i low = absurd (omega arith)
  there k (suc n) zero low = let same : k + 0 ≡ k = omega arith in ap (λ (m : ℕ). Some (in_order by_name (arrived state m))) (sym same)
  there k (suc n) (suc i) low =
      let same : suc k + i ≡ k + suc i = omega arith in
      there (suc k) n i (omega arith) ∙ ap (λ (m : ℕ). Some (in_order by_name (arrived state m))) same

  in_place : (rules : Rules) (nodes : List NodeData) → IsStateOf rules nodes state → (number : ℕ) → AreRowsIn rules nodes number (in_order by_name (arrived state number))
  in_place rules nodes held number =
      let lines = arrived state number in
      let sorted = in_order by_name lines in
      let moved : IsPermutation sorted lines = in_order_permutes by_name by_name_total lines in
      arrived_shown rules nodes state number sorted held
      (rising_from_sort (λ (row : ShownRow). row.name) name_cmp name_cmp_total lines sorted (IsPermutation-sym sorted lines moved) (arrived_distinct rules nodes state held number) (in_order_sorted by_name by_name_total lines)) moved

  pub lists_shown : (rules : Rules) (nodes : List NodeData) → IsStateOf rules nodes state → (n : ℕ) → AreShown rules nodes n (lists_from state 0 n)
  lists_shown rules nodes held n = record {
    number = many 0 n;
    rows = λ number lines at. step number lines at (nat_lt number n) refl;
  }
    where
      step : (number : ℕ) (lines : List ShownRow) → slice_get (lists_from state 0 n) number ≡ Some lines → (b : Bool) → nat_lt number n ≡ b → AreRowsIn rules nodes number lines
      step number lines at true e =
          let none : 0 + number ≡ number = omega arith in
          let found : slice_get (lists_from state 0 n) number ≡ Some (in_order by_name (arrived state (0 + number))) = there 0 n number (ltb-true number n e) in
          let same : in_order by_name (arrived state (0 + number)) ≡ lines = cc in
          subst (AreRowsIn rules nodes number) (ap (λ (m : ℕ). in_order by_name (arrived state m)) (sym none) ∙ same) (in_place rules nodes held number)
      step number lines at false e =
          let far : length (lists_from state 0 n) ≤ number = omega (arith, many 0 n, ltb-false number n e) in
          let lacks : slice_get (lists_from state 0 n) number ≡ None = slice_get_past (lists_from state 0 n) number far in
          absurd cc

-- the lists of what tables lend
pub lists_lent : (tables : Bor State) (count : ℕ) (rules : Rules) (nodes : List NodeData) → IsStateOf rules nodes tables.now → AreListsOf (rows.Lent tables count) (lists_from tables.now 0 count)
lists_lent tables count rules nodes held = record {
  sound = tt;
  rising = shown_rising rules nodes count (lists_from tables.now 0 count) (lists_shown tables.now rules nodes held count);
  exact = λ table. step table (nat_lt table count) refl;
}
  where
    step : (table : ℕ) (b : Bool) → nat_lt table count ≡ b → rows_in (lists_from tables.now 0 count) table ≡ in_order by_name (cond b (arrived tables.now table) [])
    step table true e =
        let none : 0 + table ≡ table = omega arith in
        ap (λ (found : Option (List ShownRow)). unwrap_or found []) (there tables.now 0 count table (ltb-true table count e))
        ∙ ap (λ (m : ℕ). in_order by_name (arrived tables.now m)) none
    step table false e =
        let far : length (lists_from tables.now 0 count) ≤ table = omega (arith, many tables.now 0 count, ltb-false table count e) in
        ap (λ (found : Option (List ShownRow)). unwrap_or found []) (slice_get_past (lists_from tables.now 0 count) table far)

-- a number below another one is told to be
pub within : (m n : ℕ) → m < n → nat_lt m n ≡ true
within m n low = step (nat_lt m n) refl
  where
    step : (b : Bool) → nat_lt m n ≡ b → nat_lt m n ≡ true
    step true e = e
    step false e = let high = ltb-false m n e in absurd (omega arith)
