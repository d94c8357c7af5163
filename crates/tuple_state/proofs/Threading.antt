-- Steps along the thread of a table's rows.
use Rattle.std.proofs.Common.{◌≡◌, ◌≢◌, ℕ, ◌+◌, ◌<◌, ◌≤◌, ◌==◌, ◌&&◌, Bool, true, false, cond, nat_lt, List, length, get_or, set, get_or-set_other, get_or-set_same, length-set, refl, sym, ap, ◌∙◌, subst, Option, Some, None, arith, inl, inr}
use Rattle.std.specs.Prelude.{slice_get}
use Rattle.std.proofs.lemmas.Bool.{both_ways, cases_Bool, eq-eqb, eqb-true, false_from_ne_true}
use Rattle.std.proofs.lemmas.Bool.Decides.{nat_tests}
use Rattle.tuple_state.specs.declared.inserted.Inserted.{Inserted}
use Rattle.tuple_state.specs.Least.{IsLeastOf, is_behind, is_in, is_lesser, is_standing}
use Rattle.tuple_state.specs.Threads.{AreThreads, IsNextOf, IsThread}
use Rattle.tuple_state.proofs.Grouping.{below_or}
use Rattle.tuple_state.proofs.Marking.{slice_get_below}

-- ---- places of a table's rows

pub in_below : (rows : List Inserted) (table k : ℕ) → is_in table (slice_get rows k) ≡ true → k < length rows
in_below rows table k own =
    let step : (o : Option Inserted) → slice_get rows k ≡ o → is_in table o ≡ true → k < length rows = elim [
      | None ↦ λ e h. absurd cc
      | Some it ↦ λ e h. slice_get_below rows k it e
    ] in
    step (slice_get rows k) refl own

pub table_is : (rows : List Inserted) (table k : ℕ) (it : Inserted) → slice_get rows k ≡ Some it → is_in table (slice_get rows k) ≡ true → (it.entry.table == table) ≡ true
table_is rows table k it at own = sym (ap (is_in table) at) ∙ own

-- a place that is passed over is of another table
pub passed_over : (rows : List Inserted) (table n m k : ℕ) → IsNextOf rows table n m → n ≤ k → k < m → is_in table (slice_get rows k) ≡ true → ⊥
passed_over rows table n m k next low high own = both_ways _ (next.none k low high) own

-- ---- what is so of the first so many rows is so up to the next one

pub least_onward : (rows : List Inserted) (standing : ℕ → Inserted → Bool) (table n m : ℕ) → ((k : ℕ) (it : Inserted) → slice_get rows k ≡ Some it → is_in table (slice_get rows k) ≡ false → standing k it ≡ false) → IsNextOf rows table n m
    → (o : Option ℕ) → IsLeastOf rows standing n o → IsLeastOf rows standing m o
least_onward rows standing table n m others next None none = λ k it below at.
    elim (below_or k n) [
      | inl old ↦ none k it old at
      | inr high ↦ others k it at (next.none k high below)
    ]
least_onward rows standing table n m others next (Some q) f = record {
  it = f.it;
  at = f.at;
  stands = f.stands;
  least = λ k other below there stands.
      elim (below_or k n) [
        | inl old ↦ f.least k other old there stands
        | inr high ↦ absurd (both_ways _ (others k other there (next.none k high below)) stands)
      ];
}

pub counted_onward : (n m k x old w : ℕ) → n ≤ m → (n ≤ k → k < m → w ≡ 0) → x ≡ old + cond (nat_lt k n) w 0 → x ≡ old + cond (nat_lt k m) w 0
counted_onward n m k x old w ahead none before =
    elim (below_or k n) [
      | inl low ↦
          let was : nat_lt k n ≡ true = grind (arith, nat_tests) in
          let lt : k < m = omega (arith, low, ahead) in
          let is : nat_lt k m ≡ true = grind (arith, nat_tests) in
          before ∙ ap (λ b. old + cond b w 0) (was ∙ sym is)
      | inr high ↦
          let was : nat_lt k n ≡ false = grind (arith, nat_tests) in
          let h = before ∙ ap (λ b. old + cond b w 0) was in
          elim (below_or k m) [
            | inl lt ↦
                let is : nat_lt k m ≡ true = grind (arith, nat_tests) in
                let z = none high lt in
                let e : old + cond (nat_lt k m) w 0 ≡ old + w = ap (λ b. old + cond b w 0) is in
                omega (arith, h, z, e)
            | inr past ↦
                let is : nat_lt k m ≡ false = grind (arith, nat_tests) in
                let e : old + cond (nat_lt k m) w 0 ≡ old + 0 = ap (λ b. old + cond b w 0) is in
                omega (arith, h, e)
          ]
    ]

-- one row more is counted
pub counted_row : (n k x old more a b : ℕ) → (k ≤ n → b ≡ a) → (n ≡ k → more ≡ a) → x ≡ old + cond (nat_lt k n) a 0 → x + cond (n == k) more 0 ≡ old + cond (nat_lt k (n + 1)) b 0
counted_row n k x old more a b same here before =
    elim (cases_Bool (n == k)) [
      | inl y ↦
          let is = eqb-true n k y in
          let low : nat_lt k n ≡ false = grind (arith, nat_tests) in
          let now : nat_lt k (n + 1) ≡ true = grind (arith, nat_tests) in
          let was = before ∙ ap (λ c. old + cond c a 0) low in
          let left : x + cond (n == k) more 0 ≡ x + more = ap (λ c. x + cond c more 0) y in
          let right : old + cond (nat_lt k (n + 1)) b 0 ≡ old + b = ap (λ c. old + cond c b 0) now in
          let s = same (omega (arith, is)) in
          let h = here is in
          omega (arith, was, left, right, s, h)
      | inr apart ↦
          let ne : n ≢ k = λ e. both_ways _ apart (eq-eqb n k e) in
          let left : x + cond (n == k) more 0 ≡ x + 0 = ap (λ c. x + cond c more 0) apart in
          let alike : nat_lt k n ≡ nat_lt k (n + 1) = grind (arith, nat_tests) in
          elim (below_or k n) [
            | inl low ↦
                let s = same (omega (arith, low)) in
                let was = before ∙ (λ i. old + cond (alike i) (sym s i) 0) in
                omega (arith, left, was)
            | inr high ↦
                let no : nat_lt k n ≡ false = grind (arith, nat_tests) in
                let none : nat_lt k (n + 1) ≡ false = sym alike ∙ no in
                let was = before ∙ ap (λ c. old + cond c a 0) no in
                let right : old + cond (nat_lt k (n + 1)) b 0 ≡ old + 0 = ap (λ c. old + cond c b 0) none in
                omega (arith, left, was, right)
          ]
    ]

-- a count that grows by a number
pub grown_by : (causes : List ℕ) (n more : ℕ) → n < length causes → (k : ℕ) → get_or (set causes n (get_or causes n 0 + more)) k 0 ≡ get_or causes k 0 + cond (n == k) more 0
grown_by causes n more inside k =
    elim (cases_Bool (n == k)) [
      | inl y ↦
          let is = eqb-true n k y in
          let here = ap (λ m. get_or (set causes n (get_or causes n 0 + more)) m 0) (sym is) ∙ get_or-set_same causes n (get_or causes n 0 + more) 0 inside in
          let same = ap (λ m. get_or causes m 0) is in
          let one : get_or causes k 0 + cond (n == k) more 0 ≡ get_or causes k 0 + more = ap (λ c. get_or causes k 0 + cond c more 0) y in
          omega (arith, here, same, one)
      | inr apart ↦
          let ne : k ≢ n = λ e. both_ways _ apart (eq-eqb n k (sym e)) in
          let there = get_or-set_other causes n k (get_or causes n 0 + more) 0 ne in
          let none : get_or causes k 0 + cond (n == k) more 0 ≡ get_or causes k 0 + 0 = ap (λ c. get_or causes k 0 + cond c more 0) apart in
          omega (arith, there, none)
    ]

-- ---- how threads are found, from the last row to the first

-- behind all rows they have none to lead to
pub threads_none : (rows : List Inserted) (firsts nexts : List ℕ) → ((table : ℕ) → table < length firsts → get_or firsts table 0 ≡ length rows) → AreThreads rows firsts nexts (length rows)
threads_none rows firsts nexts none = record {
  known = λ k it low at. let below = slice_get_below rows k it at in absurd (omega (arith, low, below));
  each = λ table inside. record {
    start = subst (λ (f : ℕ). IsNextOf rows table (length rows) f) (sym (none table inside)) (record {
      ahead = omega arith;
      none = λ k low high. absurd (omega (arith, low, high));
      own = λ h. absurd (omega (arith, h));
    });
    onward = λ k low own. let below = in_below rows table k own in absurd (omega (arith, low, below));
  };
}

module _ (rows : List Inserted) (firsts nexts : List ℕ) (n : ℕ) (it : Inserted) (at : slice_get rows n ≡ Some it) (room : n < length nexts) (inside : it.entry.table < length firsts) (known : AreThreads rows firsts nexts (n + 1)) where
  abbrev table_at : ℕ
  table_at = it.entry.table

  abbrev after_nexts : List ℕ
  after_nexts = set nexts n (get_or firsts table_at 0)

  abbrev after_firsts : List ℕ
  after_firsts = set firsts table_at n

  own_row : (table : ℕ) → table ≡ table_at → is_in table (slice_get rows n) ≡ true
  own_row table is = ap (is_in table) at ∙ eq-eqb it.entry.table table (sym is)

  other_row : (table : ℕ) → table ≢ table_at → is_in table (slice_get rows n) ≡ false
  other_row table ne = ap (is_in table) at ∙ false_from_ne_true _ (λ e. ne (sym (eqb-true it.entry.table table e)))

  later : (table k : ℕ) → n < k → IsNextOf rows table (k + 1) (get_or nexts k 0) → IsNextOf rows table (k + 1) (get_or after_nexts k 0)
  later table k high next = subst (λ (m : ℕ). IsNextOf rows table (k + 1) m) (sym (get_or-set_other nexts n k (get_or firsts table_at 0) 0 (λ e. omega (arith, e, high)))) next

  own_thread : (table : ℕ) → table ≡ table_at → IsThread rows after_nexts table n n
  own_thread table is = record {
    start = record {
      ahead = omega arith;
      none = λ k low high. absurd (omega (arith, low, high));
      own = λ h. own_row table is;
    };
    onward = λ k low own.
        elim (below_or n k) [
          | inl high ↦ later table k high ((known.each table (subst (λ (t : ℕ). t < length firsts) (sym is) inside)).onward k (omega (arith, high)) own)
          | inr most ↦
              let same : k ≡ n = omega (arith, low, most) in
              let here : get_or after_nexts k 0 ≡ get_or firsts table 0 = ap (λ (m : ℕ). get_or after_nexts m 0) same ∙ get_or-set_same nexts n (get_or firsts table_at 0) 0 room ∙ ap (λ (t : ℕ). get_or firsts t 0) (sym is) in
              subst (λ (m : ℕ). IsNextOf rows table (m + 1) (get_or after_nexts k 0)) (sym same) (subst (λ (m : ℕ). IsNextOf rows table (n + 1) m) (sym here) (known.each table (subst (λ (t : ℕ). t < length firsts) (sym is) inside)).start)
        ];
  }

  other_thread : (table : ℕ) → table < length firsts → table ≢ table_at → IsThread rows after_nexts table n (get_or firsts table 0)
  other_thread table low ne =
      let old = known.each table low in
      record {
        start = record {
          ahead = let a = old.start.ahead in omega (arith, a);
          none = λ k least high.
              elim (below_or n k) [
                | inl more ↦ old.start.none k (omega (arith, more)) high
                | inr most ↦ let same : n ≡ k = omega (arith, least, most) in ap (λ (m : ℕ). is_in table (slice_get rows m)) (sym same) ∙ other_row table ne
              ];
          own = old.start.own;
        };
        onward = λ k least own.
            elim (below_or n k) [
              | inl more ↦ later table k more (old.onward k (omega (arith, more)) own)
              | inr most ↦ let same : n ≡ k = omega (arith, least, most) in absurd (both_ways _ (other_row table ne) (ap (λ (m : ℕ). is_in table (slice_get rows m)) same ∙ own))
            ];
      }

  pub threads_more : AreThreads rows after_firsts after_nexts n
  threads_more = record {
    known = λ k other low there.
        let len = length-set firsts table_at n in
        elim (below_or n k) [
          | inl more ↦ let lt = known.known k other (omega (arith, more)) there in omega (arith, lt, len)
          | inr most ↦
              let same : n ≡ k = omega (arith, low, most) in
              let one : Some it ≡ Some other = sym at ∙ ap (slice_get rows) same ∙ there in
              let is : it ≡ other = cc in
              let e = ap (λ (x : Inserted). x.entry.table) is in
              omega (arith, inside, len, e)
        ];
    each = λ table low.
        let len = length-set firsts table_at n in
        elim (cases_Bool (table == table_at)) [
          | inl y ↦
              let is = eqb-true table table_at y in
              subst (λ (f : ℕ). IsThread rows after_nexts table n f) (sym (ap (λ (t : ℕ). get_or after_firsts t 0) is ∙ get_or-set_same firsts table_at n 0 inside)) (own_thread table is)
          | inr apart ↦
              let ne : table ≢ table_at = λ e. both_ways _ apart (eq-eqb table table_at e) in
              subst (λ (f : ℕ). IsThread rows after_nexts table n f) (sym (get_or-set_other firsts table_at table n 0 ne)) (other_thread table (omega (arith, low, len)) ne)
        ];
  }

-- ---- what rows of other tables do not do

pub standing_others : (rows : List Inserted) (causes groups : List ℕ) (table group k : ℕ) (it : Inserted) → slice_get rows k ≡ Some it → is_in table (slice_get rows k) ≡ false → is_standing causes groups table group k it ≡ false
standing_others rows causes groups table group k it at out = ap (λ a. (a && (get_or groups k 0 == group)) && (get_or causes k 0 == 0)) (sym (ap (is_in table) at) ∙ out)

pub behind_others : (rows : List Inserted) (groups : List ℕ) (least : List (Option ℕ)) (table k : ℕ) → is_in table (slice_get rows k) ≡ false → is_behind rows groups least table k (slice_get rows k) ≡ false
behind_others rows groups least table k out =
    let step : (o : Option Inserted) → is_in table o ≡ false → is_behind rows groups least table k o ≡ false = elim [
      | None ↦ λ h. refl
      | Some it ↦ λ h. ap (λ a. a && is_lesser rows it (get_or least (get_or groups k 0) None)) h
    ] in
    step (slice_get rows k) out

-- a row of the table is behind the least one where its name is greater
pub behind_own : (rows : List Inserted) (groups : List ℕ) (least : List (Option ℕ)) (table k : ℕ) (it : Inserted) → slice_get rows k ≡ Some it → is_in table (slice_get rows k) ≡ true
    → is_behind rows groups least table k (slice_get rows k) ≡ is_lesser rows it (get_or least (get_or groups k 0) None)
behind_own rows groups least table k it at own =
    ap (is_behind rows groups least table k) at ∙ ap (λ a. a && is_lesser rows it (get_or least (get_or groups k 0) None)) (table_is rows table k it at own)
