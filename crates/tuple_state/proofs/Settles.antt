-- Counts that are settled table by table.
use Rattle.std.proofs.Common.{◌≡◌, ◌≢◌, ℕ, zero, suc, ◌+◌, ◌<◌, ◌≤◌, ◌==◌, Bool, true, false, cond, not, ◌&&◌, nat_lt, List, [], ◌∷◌, ◌++◌, length, get_or, refl, sym, ap, ◌∙◌, subst, Option, Some, None, is_none, arith, inl, inr}
use Rattle.std.specs.Prelude.{is_some, slice_get}
use Rattle.std.proofs.lemmas.Bool.{and_parts, both_ways, cases_Bool, eq-eqb, eqb-true, false_from_ne_true, ltb-true, or_cases}
use Rattle.std.proofs.lemmas.Bool.Decides.{nat_tests}
use Rattle.table_model.specs.Counts.{one_where}
use Rattle.table_model.specs.Visible.{goes_before, kept_of}
use Rattle.tuple_state.specs.declared.inserted.Inserted.{Inserted}
use Rattle.tuple_state.specs.declared.links.Link.{Link}
use Rattle.tuple_state.specs.declared.shape.Shape.{Shape}
use Rattle.tuple_state.specs.Causes.{AreRising, absent_times, is_absent, one_at, times_in}
use Rattle.tuple_state.specs.Least.{AreGrouped, AreLeast, AreLevel, AreSettled, any_from, is_behind, is_free, is_in, is_level, is_passed, is_passed_in, passed_by}
use Rattle.tuple_state.specs.State.{row_of, rules_over}
use Rattle.tuple_state.proofs.Dropping.{row_there}
use Rattle.tuple_state.proofs.Grouping.{below_or, last_or}
use Rattle.tuple_state.proofs.Leasts.{any_alike, behind_is}
use Rattle.tuple_state.proofs.Marking.{slice_get_below}
use Rattle.tuple_state.proofs.Raising.{absent_fewer, rising_at, rising_there, unit}
use Rattle.tuple_state.proofs.Meaning.{count_cons}

and_none : (b : Bool) → (b && false) ≡ false
and_none true = refl
and_none false = refl

-- no number is above the last place
pub none_higher : (causes : List ℕ) (low high k : ℕ) (links : List Link) → AreRising low high links → high ≤ k → absent_times links causes k ≡ 0
unfolding AreRising
none_higher causes low high k [] rise above = refl
none_higher causes low high k (link ∷ links) rise above =
    let a = rise.1 in
    let other : (link.number == k) ≡ false = false_from_ne_true _ (λ e. let same = eqb-true link.number k e in absurd (omega (arith, same, a, above))) in
    count_cons (λ (l : Link). is_absent causes l.place && (l.number == k)) link links
    ∙ (λ i. unit ((ap (λ b. is_absent causes link.place && b) other ∙ and_none (is_absent causes link.place)) i) + none_higher causes link.number high k links rise.3 above i)

-- counts of absent places agree where they agree on those that have the number
pub absent_agree : (a b : List ℕ) (k : ℕ) (links : List Link) → ((n : ℕ) (link : Link) → slice_get links n ≡ Some link → link.number ≡ k → is_absent a link.place ≡ is_absent b link.place) → absent_times links a k ≡ absent_times links b k
absent_agree a b k [] h = refl
absent_agree a b k (link ∷ links) h =
    let step : (c : Bool) → (link.number == k) ≡ c → (is_absent a link.place && c) ≡ (is_absent b link.place && c) = elim [
      | true ↦ λ e. ap (λ x. x && true) (h 0 link refl (eqb-true link.number k e))
      | false ↦ λ e. and_none (is_absent a link.place) ∙ sym (and_none (is_absent b link.place))
    ] in
    count_cons (λ (l : Link). is_absent a l.place && (l.number == k)) link links
    ∙ (λ i. unit (step (link.number == k) refl i) + absent_agree a b k links (λ n x at. h (suc n) x at) i)
    ∙ sym (count_cons (λ (l : Link). is_absent b l.place && (l.number == k)) link links)

pub kept_at : (shapes : List Shape) (number : ℕ) (shape : Shape) → slice_get shapes number ≡ Some shape → kept_of (rules_over shapes) number ≡ shape.kept
kept_at [] number shape at = absurd (cc)
kept_at (x ∷ shapes) zero shape at = let same : x ≡ shape = cc in ap (λ (s : Shape). s.kept) same
kept_at (x ∷ shapes) (suc number) shape at = kept_at shapes number shape at

zero_past : (xs : List ℕ) (k : ℕ) → length xs ≤ k → get_or xs k 0 ≡ 0
zero_past [] k above = refl
zero_past (x ∷ xs) zero above = absurd (omega (arith, above))
zero_past (x ∷ xs) (suc k) above = zero_past xs k (omega (arith, above))

pub push_low : (xs : List ℕ) (x k : ℕ) → ((j : ℕ) → get_or xs j 0 ≤ 1) → x ≤ 1 → get_or (xs ++ x ∷ []) k 0 ≤ 1
push_low [] x zero h low = low
push_low [] x (suc k) h low = omega arith
push_low (y ∷ xs) x zero h low = h 0
push_low (y ∷ xs) x (suc k) h low = push_low xs x k (λ j. h (suc j)) low

past_end : (rows : List Inserted) (k : ℕ) → slice_get rows k ≡ None → length rows ≤ k
past_end [] k none = omega arith
past_end (x ∷ rows) zero none = absurd (cc)
past_end (x ∷ rows) (suc k) none = let rest = past_end rows k none in omega (arith, rest)

one_low : (b : Bool) → one_where b ≤ 1
one_low true = omega arith
one_low false = omega arith

-- The counts of the rows in the first so many tables are settled, and the others are as at first.
pub record AreSettledTo (shapes : List Shape) (rows : List Inserted) (links : List Link) (base : List ℕ) (table : ℕ) (causes : List ℕ) : Type 0 where
  pub done : (k : ℕ) (it : Inserted) → slice_get rows k ≡ Some it → it.entry.table < table
      → get_or causes k 0 ≡ (get_or base k 0 + absent_times links causes k) + one_where (is_passed shapes rows (is_free (λ n. get_or base n 0) links causes) it)
  pub rest : (k : ℕ) (it : Inserted) → slice_get rows k ≡ Some it → table ≤ it.entry.table → get_or causes k 0 ≡ get_or base k 0

-- ---- steps of loops

pub cond_low : (b : Bool) (n : ℕ) → cond b n 0 ≤ n
cond_low true n = omega arith
cond_low false n = omega arith

pub count_more : (rows : List Inserted) (links : List Link) (table k new old : ℕ) (causes : List ℕ) → new ≡ old + cond (is_in table (slice_get rows k)) (absent_times links causes k) 0 → new ≤ old + times_in links k
count_more rows links table k new old causes is =
    let low = cond_low (is_in table (slice_get rows k)) (absent_times links causes k) in
    let fewer = absent_fewer links causes k in
    omega (arith, is, low, fewer)

module _ (v : ℕ → Bool) (n k x old : ℕ) (before : x ≡ old + cond (nat_lt k n) (one_where (v k)) 0) where
  pub behind_then : v n ≡ true → x + one_at n k ≡ old + cond (nat_lt k (n + 1)) (one_where (v k)) 0
  behind_then so =
      elim (cases_Bool (n == k)) [
        | inl y ↦
            let same = eqb-true n k y in
            let one : one_at n k ≡ 1 = ap (λ c. unit c) y in
            let low : nat_lt k n ≡ false = grind (arith, nat_tests) in
            let now : nat_lt k (n + 1) ≡ true = grind (arith, nat_tests) in
            let was = before ∙ ap (λ b. old + cond b (one_where (v k)) 0) low in
            let is : old + cond (nat_lt k (n + 1)) (one_where (v k)) 0 ≡ old + 1 = (λ i. old + cond (now i) (one_where ((ap v (sym same) ∙ so) i)) 0) in
            omega (arith, was, one, is)
        | inr apart ↦
            let ne : n ≢ k = λ e. both_ways _ apart (eq-eqb n k e) in
            let none : one_at n k ≡ 0 = ap (λ c. unit c) apart in
            let same : nat_lt k n ≡ nat_lt k (n + 1) = grind (arith, nat_tests) in
            let is = before ∙ ap (λ b. old + cond b (one_where (v k)) 0) same in
            omega (arith, is, none)
      ]

  pub behind_else : v n ≡ false → x ≡ old + cond (nat_lt k (n + 1)) (one_where (v k)) 0
  behind_else not_so =
      elim (cases_Bool (n == k)) [
        | inl y ↦
            let same = eqb-true n k y in
            let low : nat_lt k n ≡ false = grind (arith, nat_tests) in
            let now : nat_lt k (n + 1) ≡ true = grind (arith, nat_tests) in
            let was = before ∙ ap (λ b. old + cond b (one_where (v k)) 0) low in
            let is : old + cond (nat_lt k (n + 1)) (one_where (v k)) 0 ≡ old + 0 = (λ i. old + cond (now i) (one_where ((ap v (sym same) ∙ not_so) i)) 0) in
            omega (arith, was, is)
        | inr apart ↦
            let ne : n ≢ k = λ e. both_ways _ apart (eq-eqb n k e) in
            let same : nat_lt k n ≡ nat_lt k (n + 1) = grind (arith, nat_tests) in
            before ∙ ap (λ b. old + cond b (one_where (v k)) 0) same
      ]

pub behind_first : (n x old y : ℕ) → x ≡ old + cond (nat_lt n n) y 0 → x ≡ old
behind_first n x old y h =
    let low : nat_lt n n ≡ false = grind (arith, nat_tests) in
    let is = h ∙ ap (λ b. old + cond b y 0) low in
    omega (arith, is)

pub behind_end : (rows : List Inserted) (groups : List ℕ) (least : List (Option ℕ)) (table n k x old : ℕ) → length rows ≤ n → x ≡ old + cond (nat_lt k n) (one_where (is_behind rows groups least table k (slice_get rows k))) 0
    → x ≡ old + one_where (is_behind rows groups least table k (slice_get rows k))
behind_end rows groups least table n k x old past h =
    let step : (o : Option Inserted) → slice_get rows k ≡ o → x ≡ old + cond (nat_lt k n) (one_where (is_behind rows groups least table k o)) 0 → x ≡ old + one_where (is_behind rows groups least table k o) = elim [
      | None ↦ λ e g.
          let any : (b : Bool) → ◌≡◌ {A = ℕ} (cond b 0 0) 0 = elim [ true ↦ refl | false ↦ refl ] in
          let z = any (nat_lt k n) in
          omega (arith, g, z)
      | Some it ↦ λ e g.
          let below = slice_get_below rows k it e in
          let low : nat_lt k n ≡ true = (let lt : k < n = omega (arith, below, past) in grind (arith, nat_tests)) in
          g ∙ ap (λ b. old + cond b (one_where (is_behind rows groups least table k (Some it))) 0) low
    ] in
    step (slice_get rows k) refl h

module _ (shapes : List Shape) (rows : List Inserted) (links : List Link) (rise : AreRising 0 (length rows) links) (level : AreLevel shapes rows links) (base : List ℕ) (each : length base ≡ length rows) where
  abbrev own : ℕ → ℕ
  own k = get_or base k 0

  pub settled_first : AreSettledTo shapes rows links base 0 base
  settled_first = record { done = λ k it at low. absurd (omega (arith, low)); rest = λ k it at high. refl }

  -- counts are few
  pub settled_few : (table : ℕ) (causes : List ℕ) → length causes ≡ length rows → AreSettledTo shapes rows links base table causes → (k : ℕ) → get_or causes k 0 ≤ own k + times_in links k + 1
  settled_few table causes len s k =
      let step : (o : Option Inserted) → slice_get rows k ≡ o → get_or causes k 0 ≤ own k + times_in links k + 1 = elim [
        | None ↦ λ e. let past = past_end rows k e in let z = zero_past causes k (omega (arith, past, len)) in omega (arith, z)
        | Some it ↦ λ e. elim (below_or it.entry.table table) [
          | inl low ↦ let d = s.done k it e low in let a = absent_fewer links causes k in let b = one_low (is_passed shapes rows (is_free own links causes) it) in omega (arith, d, a, b)
          | inr high ↦ let r = s.rest k it e high in omega (arith, r)
        ]
      ] in
      step (slice_get rows k) refl

  -- what is counted of rows in earlier tables stays where their counts do
  module _ (table : ℕ) (a b : List ℕ) (same : (k : ℕ) (it : Inserted) → slice_get rows k ≡ Some it → it.entry.table < table → get_or a k 0 ≡ get_or b k 0) where
    absent_stays : (k : ℕ) (it : Inserted) → slice_get rows k ≡ Some it → ((other : Inserted) → is_level shapes it other ≡ true → other.entry.table < table) → absent_times links a k ≡ absent_times links b k
    absent_stays k it at low =
        absent_agree a b k links (λ n link there number.
        let below = slice_get_below_link n link there in
        let number_low = rising_there 0 (length rows) links n link rise there in
        let rises = rising_at 0 (length rows) links n link rise below in
        let is = link_is n link there in
        let place_low : link.place < length rows = (let p = rises.1 in let e = ap (λ (l : Link). l.place) is in let f = ap (λ (l : Link). l.number) is in omega (arith, p, e, f, number_low)) in
        let row = row_there rows link.place place_low in
        let l = level.level n k link it row.0 there number at row.1 in
        ap (λ m. not (m == 0)) (same link.place row.0 row.1 (low row.0 l)))
      where
        slice_get_below_link : (n : ℕ) (link : Link) → slice_get links n ≡ Some link → n < length links
        slice_get_below_link n link there = slice_get_below links n link there

        link_is : (n : ℕ) (link : Link) → slice_get links n ≡ Some link → get_or links n link ≡ link
        link_is n link there = Rattle.tuple_state.proofs.Lookups.get_or_from links n link link there

    -- a level row is of no later table
    level_low : (it other : Inserted) → it.entry.table < table → is_level shapes it other ≡ true → other.entry.table < table
    level_low it other low l = elim (or_cases (nat_lt other.entry.table it.entry.table) _ l) [
      | inl less ↦ let lt = ltb-true other.entry.table it.entry.table less in omega (arith, lt, low)
      | inr own_table ↦ let e = eqb-true other.entry.table it.entry.table (and_parts (other.entry.table == it.entry.table) _ own_table).0 in omega (arith, e, low)
    ]

    free_stays : (k : ℕ) (it : Inserted) → slice_get rows k ≡ Some it → it.entry.table < table → is_free own links a k ≡ is_free own links b k
    free_stays k it at low = ap (λ n. (own k + n) == 0) (absent_stays k it at (λ other. level_low it other low))

    passed_stays : (k : ℕ) (it : Inserted) → slice_get rows k ≡ Some it → it.entry.table < table → is_passed shapes rows (is_free own links a) it ≡ is_passed shapes rows (is_free own links b) it
    passed_stays k it at low =
        let step : (o : Option ℕ) → is_passed_in rows (is_free own links a) it o ≡ is_passed_in rows (is_free own links b) it o = elim [
          | None ↦ refl
          | Some column ↦
              any_alike (λ place other. goes_before column (row_of it) (row_of other) && is_free own links a place) (λ place other. goes_before column (row_of it) (row_of other) && is_free own links b place) 0 rows
              (λ m other there.
              let decide : (c : Bool) → goes_before column (row_of it) (row_of other) ≡ c → (c && is_free own links a (0 + m)) ≡ (c && is_free own links b (0 + m)) = elim [
                | true ↦ λ e.
                    let table_is = eqb-true other.entry.table it.entry.table (and_parts (other.entry.table == it.entry.table) _ (and_parts _ _ e).0).0 in
                    ap (λ (n : ℕ). is_free own links a n) (omega arith) ∙ free_stays m other there (omega (arith, table_is, low)) ∙ ap (λ (n : ℕ). is_free own links b n) (omega arith)
                | false ↦ λ e. refl
              ] in
              decide (goes_before column (row_of it) (row_of other)) refl)
        ] in
        step (kept_of (rules_over shapes) it.entry.table)

  -- ---- one table more

  module _ (table : ℕ) (old counted : List ℕ) (s : AreSettledTo shapes rows links base table old)
      (more : (k : ℕ) → get_or counted k 0 ≡ get_or old k 0 + cond (is_in table (slice_get rows k)) (absent_times links counted k) 0) where
    -- the counts of other tables are the same
    others : (k : ℕ) (it : Inserted) → slice_get rows k ≡ Some it → it.entry.table ≢ table → get_or counted k 0 ≡ get_or old k 0
    others k it at ne =
        let out : is_in table (slice_get rows k) ≡ false = ap (is_in table) at ∙ false_from_ne_true _ (λ e. ne (eqb-true it.entry.table table e)) in
        let m = more k ∙ ap (λ b. get_or old k 0 + cond b (absent_times links counted k) 0) out in
        omega (arith, m)

    this : (k : ℕ) (it : Inserted) → slice_get rows k ≡ Some it → it.entry.table ≡ table → get_or counted k 0 ≡ own k + absent_times links counted k
    this k it at is =
        let inside : is_in table (slice_get rows k) ≡ true = ap (is_in table) at ∙ eq-eqb it.entry.table table is in
        let m = more k ∙ ap (λ b. get_or old k 0 + cond b (absent_times links counted k) 0) inside in
        let r = s.rest k it at (omega (arith, is)) in
        omega (arith, m, r)

    -- what comes after, where only counts of this table change
    module _ (new : List ℕ) (kept_others : (k : ℕ) (it : Inserted) → slice_get rows k ≡ Some it → it.entry.table ≢ table → get_or new k 0 ≡ get_or counted k 0) where
      earlier : (k : ℕ) (it : Inserted) → slice_get rows k ≡ Some it → it.entry.table < table → get_or new k 0 ≡ get_or old k 0
      earlier k it at low = let ne : it.entry.table ≢ table = λ e. absurd (omega (arith, e, low)) in kept_others k it at ne ∙ others k it at ne

      before : (k : ℕ) (it : Inserted) → slice_get rows k ≡ Some it → it.entry.table < table
          → get_or new k 0 ≡ (own k + absent_times links new k) + one_where (is_passed shapes rows (is_free own links new) it)
      before k it at low =
          earlier k it at low ∙ s.done k it at low
          ∙ (λ i. (own k + sym (absent_stays table new old earlier k it at (λ other. level_low table new old earlier it other low)) i) + one_where (sym (passed_stays table new old earlier k it at low) i))

      next_by : ((k : ℕ) (it : Inserted) → slice_get rows k ≡ Some it → it.entry.table ≡ table → get_or new k 0 ≡ (own k + absent_times links new k) + one_where (is_passed shapes rows (is_free own links new) it))
          → AreSettledTo shapes rows links base (table + 1) new
      next_by here = record {
        done = λ k it at low. elim (last_or it.entry.table table low) [
          | inl less ↦ before k it at less
          | inr is ↦ here k it at is
        ];
        rest = λ k it at high.
            let ne : it.entry.table ≢ table = λ e. absurd (omega (arith, e, high)) in
            kept_others k it at ne ∙ others k it at ne ∙ s.rest k it at (omega (arith, high));
      }

    -- a table that keeps no least row
    pub settled_plain : kept_of (rules_over shapes) table ≡ None → AreSettledTo shapes rows links base (table + 1) counted
    settled_plain none =
        next_by counted (λ k it at ne. refl) (λ k it at is.
        let no_pass : is_passed shapes rows (is_free own links counted) it ≡ false = ap (is_passed_in rows (is_free own links counted) it) (ap (kept_of (rules_over shapes)) is ∙ none) in
        let c = this k it at is in
        let z = ap one_where no_pass in
        omega (arith, c, z))

    -- a table that keeps one
    module _ (groups : List ℕ) (least : List (Option ℕ)) (column : ℕ) (new : List ℕ) (kept : kept_of (rules_over shapes) table ≡ Some column) (grouped : AreGrouped shapes rows groups) (all : length groups ≡ length rows)
        (are : AreLeast rows counted groups table (length rows) least)
        (behind : (k : ℕ) → get_or new k 0 ≡ get_or counted k 0 + one_where (is_behind rows groups least table k (slice_get rows k))) where
      new_others : (k : ℕ) (it : Inserted) → slice_get rows k ≡ Some it → it.entry.table ≢ table → get_or new k 0 ≡ get_or counted k 0
      new_others k it at ne =
          let out : is_behind rows groups least table k (slice_get rows k) ≡ false =
          ap (is_behind rows groups least table k) at ∙ ap (λ b. b && Rattle.tuple_state.specs.Least.is_lesser rows it (get_or least (get_or groups k 0) None)) (false_from_ne_true _ (λ e. ne (eqb-true it.entry.table table e))) in
          let b = behind k ∙ ap (λ c. get_or counted k 0 + one_where c) out in
          omega (arith, b)

      -- rows of this table rest on those of earlier ones
      level_less : (it other : Inserted) → it.entry.table ≡ table → is_level shapes it other ≡ true → other.entry.table < table
      level_less it other is l = elim (or_cases (nat_lt other.entry.table it.entry.table) _ l) [
        | inl less ↦ let lt = ltb-true other.entry.table it.entry.table less in omega (arith, lt, is)
        | inr own_table ↦
            let none = (and_parts (other.entry.table == it.entry.table) _ own_table).1 in
            let some : is_none (Some column) ≡ true = ap is_none (sym (ap (kept_of (rules_over shapes)) is ∙ kept)) ∙ none in
            absurd cc
      ]

      under : (k : ℕ) (it : Inserted) → slice_get rows k ≡ Some it → it.entry.table < table → get_or new k 0 ≡ get_or counted k 0
      under k it at low = new_others k it at (λ e. absurd (omega (arith, e, low)))

      absent_same : (k : ℕ) (it : Inserted) → slice_get rows k ≡ Some it → it.entry.table ≡ table → absent_times links new k ≡ absent_times links counted k
      absent_same k it at is = absent_stays table new counted under k it at (λ other. level_less it other is)

      free_same : (k : ℕ) (it : Inserted) → slice_get rows k ≡ Some it → it.entry.table ≡ table → is_free own links new k ≡ (get_or counted k 0 == 0)
      free_same k it at is = ap (λ n. n == 0) (ap (λ n. own k + n) (absent_same k it at is) ∙ sym (this k it at is))

      pub settled_kept : AreSettledTo shapes rows links base (table + 1) new
      settled_kept =
          next_by new new_others (λ k it at is.
          let passes : is_passed shapes rows (is_free own links new) it ≡ is_behind rows groups least table k (Some it) =
          ap (is_passed_in rows (is_free own links new) it) (ap (kept_of (rules_over shapes)) is ∙ kept)
          ∙ any_alike (λ place other. goes_before column (row_of it) (row_of other) && is_free own links new place) (λ place other. goes_before column (row_of it) (row_of other) && (get_or counted place 0 == 0)) 0 rows
          (λ m other there.
          let decide : (c : Bool) → goes_before column (row_of it) (row_of other) ≡ c → (c && is_free own links new (0 + m)) ≡ (c && (get_or counted (0 + m) 0 == 0)) = elim [
            | true ↦ λ e.
                let table_is = eqb-true other.entry.table it.entry.table (and_parts (other.entry.table == it.entry.table) _ (and_parts _ _ e).0).0 in
                ap (λ (n : ℕ). is_free own links new n) (omega arith) ∙ free_same m other there (table_is ∙ is) ∙ ap (λ (n : ℕ). get_or counted n 0 == 0) (omega arith)
            | false ↦ λ e. refl
          ] in
          decide (goes_before column (row_of it) (row_of other)) refl)
          ∙ sym (behind_is shapes rows groups counted least table column grouped all kept are k it at is) in
          behind k ∙ ap (λ o. get_or counted k 0 + one_where (is_behind rows groups least table k o)) at
          ∙ (λ i. (this k it at is ∙ ap (λ n. own k + n) (sym (absent_same k it at is))) i + one_where (sym passes i)))

    -- a table of either kind
    pub settled_next : (groups : List ℕ) (least : List (Option ℕ)) (new : List ℕ) → AreGrouped shapes rows groups → length groups ≡ length rows → (kept : Option ℕ) → kept_of (rules_over shapes) table ≡ kept → (keeps : Bool) → keeps ≡ is_some kept
        → (keeps ≡ true → AreLeast rows counted groups table (length rows) least)
        → (keeps ≡ true → (k : ℕ) → get_or new k 0 ≡ get_or counted k 0 + one_where (is_behind rows groups least table k (slice_get rows k)))
        → (keeps ≡ false → new ≡ counted) → AreSettledTo shapes rows links base (table + 1) new
    settled_next groups least new grouped all None kept keeps is are behind plain = subst (λ (l : List ℕ). AreSettledTo shapes rows links base (table + 1) l) (sym (plain is)) (settled_plain kept)
    settled_next groups least new grouped all (Some column) kept keeps is are behind plain = settled_kept groups least column new kept grouped all (are is) (behind is)

  -- ---- all tables

  pub settled_all : (table : ℕ) (causes : List ℕ) → length causes ≡ length rows → length shapes ≤ table → AreSettledTo shapes rows links base table causes → AreSettled shapes rows links own causes
  settled_all table causes len past s k =
      let step : (o : Option Inserted) → slice_get rows k ≡ o → get_or causes k 0 ≡ (own k + absent_times links causes k) + passed_by shapes rows (is_free own links causes) o = elim [
        | None ↦ λ e.
            let above = past_end rows k e in
            let z = zero_past causes k (omega (arith, above, len)) in
            let b = zero_past base k (omega (arith, above, each)) in
            let n = none_higher causes 0 (length rows) k links rise above in
            omega (arith, z, b, n)
        | Some it ↦ λ e. let known = level.known k it e in s.done k it e (omega (arith, known, past))
      ] in
      step (slice_get rows k) refl
