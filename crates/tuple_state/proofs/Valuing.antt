-- Values of columns of which tables keep the least row of each, and the first rows that have them.
use Rattle.std.proofs.Common.{◌≡◌, ℕ, zero, suc, ◌+◌, ◌<◌, ◌≤◌, ◌==◌, Bool, true, false, cond, ◌&&◌, List, [], ◌∷◌, ◌++◌, length, take, refl, sym, ap, ◌∙◌, subst, Option, Some, None, is_none, nat_lt, arith}
use Rattle.std.specs.Prelude.{is_some}
use Rattle.std.specs.List.{AllByRecursion, list_any, position_from}
use Rattle.std.specs.List.Sorted.{IsStrictlySortedBy}
use Rattle.std.specs.Map.{keys_of, lookup}
use Rattle.std.specs.Map.Calls.{RetainsPairs}
use Rattle.std.specs.Cmp.{unsigned_tied}
use Rattle.std.specs.Ordering.{is_eq, nat_cmp, ordering_then}
use Rattle.std.specs.declared.cmp.Ordering.{Ordering}
use Rattle.std.specs.declared.cmp.Ordering.TheVariants as order
use Rattle.std.proofs.lemmas.Bool.{and_parts, both_ways, eqb-true, false_from_ne_true}
use Rattle.std.proofs.lemmas.Bool.Decides.{nat_tests}
use Rattle.std.proofs.lemmas.Map.Keys.{sorted_head, sorted_tail}
use Rattle.update_model.specs.declared.value.Value.{Value}
use Rattle.update_model.specs.declared.value.Value.TheVariants as value
use Rattle.update_model.proofs.Closed.{is_some-position, position_from-push}
use Rattle.row_check.specs.declared.cmp.Cmp.TheVariants as cmp
use Rattle.row_check.specs.Comparisons.{compares}
use Rattle.row_check.specs.Meaning.{value_at}
use Rattle.table_model.specs.Visible.{kept_of}
use Rattle.table_model.proofs.EqualValues.{equal_back, equal_on}
use Rattle.table_model.proofs.Standing.{bool_same}
use Rattle.tuple_state.specs.contracts.kept_value.ContentOrd.TheImpl as content_ord
use Rattle.tuple_state.specs.contracts.kept_value.KeptValueOrd.TheImpl.Laws.{total-law}
use Rattle.tuple_state.specs.declared.inserted.Inserted.{Inserted}
use Rattle.tuple_state.specs.declared.kept_value.Content.{Content}
use Rattle.tuple_state.specs.declared.kept_value.Content.TheVariants as content
use Rattle.tuple_state.specs.declared.kept_value.KeptValue.{KeptValue}
use Rattle.tuple_state.specs.declared.shape.Shape.{Shape}
use Rattle.tuple_state.specs.State.{rules_over}
use Rattle.tuple_state.specs.Values.{IsKeyIn, IsKeyOf, alike_in, below, first_alike, has_at, has_in, has_kept, kept_cmp, value_of}

-- ---- where the first place is that passes a test

none_from : (o : Option ℕ) → is_some o ≡ false → o ≡ None
none_from None h = refl
none_from (Some k) h = absurd (cc)

pub no_place : {X : Type 0} (t : X → Bool) → ((x : X) → t x ≡ false) → (i : ℕ) (xs : List X) → position_from t i xs ≡ None
no_place t fails i [] = refl
no_place t fails i (x ∷ xs) = ap (λ b. cond b (Some i) (position_from t (i + 1) xs)) (fails x) ∙ no_place t fails (i + 1) xs

-- one more that fails it changes nothing
not_last : {X : Type 0} (t : X → Bool) (xs : List X) (y : X) → t y ≡ false → position_from t 0 (xs ++ y ∷ []) ≡ position_from t 0 xs
not_last t xs y fails =
    let step : (b : Bool) → list_any t xs ≡ b → cond b (position_from t 0 xs) None ≡ position_from t 0 xs =
    elim [ true ↦ λ e. refl | false ↦ λ e. sym (none_from (position_from t 0 xs) (is_some-position t 0 xs ∙ e)) ] in
    position_from-push t 0 xs y ∙ ap (λ b. cond (list_any t xs) (position_from t 0 xs) (cond b (Some (0 + length xs)) None)) fails ∙ step (list_any t xs) refl

none_below : {X : Type 0} (t : X → Bool) (m i : ℕ) (xs : List X) → m ≤ i → below m (position_from t i xs) ≡ None
none_below t m i [] low = refl
none_below t m i (x ∷ xs) low =
    let out : nat_lt i m ≡ false = grind (arith, nat_tests) in
    let step : (b : Bool) → below m (cond b (Some i) (position_from t (i + 1) xs)) ≡ None =
    elim [ true ↦ ap (λ b. cond b (Some i) None) out | false ↦ none_below t m (i + 1) xs (omega (arith, low)) ] in
    step (t x)

-- of the first so many it is the same, where it is one of these
place_front : {X : Type 0} (t : X → Bool) (n i : ℕ) (xs : List X) → below (i + n) (position_from t i xs) ≡ position_from t i (take n xs)
place_front t zero i xs = none_below t (i + 0) i xs (omega arith)
place_front t (suc n) i [] = refl
place_front t (suc n) i (x ∷ xs) =
    let inner : nat_lt i (i + suc n) ≡ true = grind (arith, nat_tests) in
    let even : i + suc n ≡ i + 1 + n = omega arith in
    let step : (b : Bool) → below (i + suc n) (cond b (Some i) (position_from t (i + 1) xs)) ≡ cond b (Some i) (position_from t (i + 1) (take n xs)) =
    elim [ true ↦ ap (λ b. cond b (Some i) None) inner | false ↦ ap (λ m. below m (position_from t (i + 1) xs)) even ∙ place_front t n (i + 1) xs ] in
    step (t x)

pub place_cut : {X : Type 0} (t : X → Bool) (n : ℕ) (xs : List X) → below n (position_from t 0 xs) ≡ position_from t 0 (take n xs)
place_cut t n xs = ap (λ m. below m (position_from t 0 xs)) (let e : n ≡ 0 + n = omega arith in e) ∙ place_front t n 0 xs

-- ---- which values are one

eq_then : (a b : Ordering) → is_eq (ordering_then a b) ≡ (is_eq a && is_eq b)
eq_then order.Less b = refl
eq_then order.Equal b = refl
eq_then order.Greater b = refl

content_equal : (a b : Content) → is_eq ((content_ord.ghosts).cmp a b) ≡ compares cmp.Eq (value_of a) (value_of b)
content_equal (content.Int a) (content.Int b) = refl
content_equal (content.Text a) (content.Text b) = refl
content_equal (content.Flag a) (content.Flag b) = refl
content_equal (content.Int a) (content.Text b) = refl
content_equal (content.Int a) (content.Flag b) = refl
content_equal (content.Text a) (content.Int b) = refl
content_equal (content.Text a) (content.Flag b) = refl
content_equal (content.Flag a) (content.Int b) = refl
content_equal (content.Flag a) (content.Text b) = refl

kept_equal : (a b : KeptValue) → is_eq (kept_cmp a b) ≡ ((a.table == b.table) && compares cmp.Eq (value_of a.content) (value_of b.content))
kept_equal a b = eq_then (nat_cmp a.table b.table) ((content_ord.ghosts).cmp a.content b.content) ∙ (λ i. unsigned_tied a.table b.table i && content_equal a.content b.content i)

-- ---- which rows have a value

module _ (shapes : List Shape) where
  abbrev kept : ℕ → Option ℕ
  kept number = kept_of (rules_over shapes) number

  -- values that are one are had by the same rows
  same_had : (a b : KeptValue) (it : Inserted) → is_eq (kept_cmp a b) ≡ true → has_kept shapes a it ≡ has_kept shapes b it
  same_had a b it same =
      let parts = and_parts (a.table == b.table) _ (sym (kept_equal a b) ∙ same) in
      let table : a.table ≡ b.table = eqb-true a.table b.table parts.0 in
      let one : (v : Value) → compares cmp.Eq v (value_of a.content) ≡ compares cmp.Eq v (value_of b.content) =
      λ v.
      bool_same (compares cmp.Eq v (value_of a.content)) (compares cmp.Eq v (value_of b.content)) (λ h. equal_on v (value_of a.content) (value_of b.content) h parts.1)
      (λ h. equal_on v (value_of b.content) (value_of a.content) h (equal_back (value_of b.content) (value_of a.content) ∙ parts.1)) in
      let step : (o : Option ℕ) → has_in a.table (value_of a.content) it o ≡ has_in b.table (value_of b.content) it o =
      elim [ None ↦ refl | Some column ↦ λ i. (it.entry.table == table i) && one (value_at it.entry.values column) i ] in
      step (kept a.table) ∙ ap (λ n. has_in b.table (value_of b.content) it (kept n)) table

  -- the rows that have a value of a table, told of the column
  had_in : (key : KeptValue) (table column : ℕ) (v : Value) → key.table ≡ table → value_of key.content ≡ v → kept table ≡ Some column → (rows : List Inserted)
      → position_from (has_kept shapes key) 0 rows ≡ position_from (has_at table column v) 0 rows
  had_in key table column v at is by rows = λ i. position_from (λ it. has_in (at i) (is i) it ((ap kept at ∙ by) i)) 0 rows

  nothing_has : (table column : ℕ) (v : Value) → IsKeyOf table v None → (it : Inserted) → has_at table column v it ≡ false
  nothing_has table column v of it =
      let step : (b : Bool) → (b && compares cmp.Eq (value_at it.entry.values column) v) ≡ false = elim [ true ↦ of (value_at it.entry.values column) | false ↦ refl ] in
      step (it.entry.table == table)

  pub nothing_found : (table column : ℕ) (v : Value) (rows : List Inserted) → IsKeyOf table v None → None ≡ position_from (has_at table column v) 0 rows
  nothing_found table column v rows of = sym (no_place (has_at table column v) (nothing_has table column v of) 0 rows)

  -- ---- the value that a row has

  -- What a row has, where it is looked for by something.
  record HasOwn (row : Inserted) (key : KeptValue) : Type 0 where
    column : ℕ
    by : kept row.entry.table ≡ Some column
    table : key.table ≡ row.entry.table
    has : value_of key.content ≡ value_at row.entry.values column

  own_of : (row : Inserted) (key : KeptValue) → IsKeyIn row (kept row.entry.table) (Some key) → HasOwn row key
  own_of row key h =
      let step : (o : Option ℕ) → kept row.entry.table ≡ o → IsKeyIn row o (Some key) → HasOwn row key =
      elim [ None ↦ λ is f. absurd cc | Some column ↦ λ is f. record { column = column; by = is; table = f.0; has = f.1 } ] in
      step (kept row.entry.table) refl h

  -- it has the values that are one with its own
  has_own : (row : Inserted) (key q : KeptValue) → HasOwn row key → has_kept shapes q row ≡ is_eq (kept_cmp key q)
  has_own row key q own =
      let same : Bool = compares cmp.Eq (value_of key.content) (value_of q.content) in
      let step : (o : Option ℕ) (b : Bool) → kept q.table ≡ o → (key.table == q.table) ≡ b → has_in q.table (value_of q.content) row o ≡ ((key.table == q.table) && same) = elim [
        | None ↦ elim [
          | true ↦ λ none e. let one : None ≡ Some own.column = sym none ∙ ap kept (sym (eqb-true key.table q.table e) ∙ own.table) ∙ own.by in absurd cc
          | false ↦ λ none e. sym (ap (λ b. b && same) e)
        ]
        | Some c ↦ elim [
          | true ↦ λ is e.
              let one : Some c ≡ Some own.column = sym is ∙ ap kept (sym (eqb-true key.table q.table e) ∙ own.table) ∙ own.by in
              let col : c ≡ own.column = cc in
              λ i. (sym own.table i == q.table) && compares cmp.Eq ((ap (value_at row.entry.values) col ∙ sym own.has) i) (value_of q.content)
          | false ↦ λ is e.
              ap (λ n. (n == q.table) && compares cmp.Eq (value_at row.entry.values c) (value_of q.content)) (sym own.table)
              ∙ ap (λ b. b && compares cmp.Eq (value_at row.entry.values c) (value_of q.content)) e ∙ sym (ap (λ b. b && same) e)
        ]
      ] in
      step (kept q.table) (key.table == q.table) refl refl ∙ sym (kept_equal key q)

  -- a row that is looked for by nothing has none
  has_none : (row : Inserted) (q : KeptValue) → IsKeyIn row (kept row.entry.table) None → has_kept shapes q row ≡ false
  has_none row q h =
      let step : (o : Option ℕ) (b : Bool) → kept q.table ≡ o → (row.entry.table == q.table) ≡ b → has_in q.table (value_of q.content) row o ≡ false = elim [
        | None ↦ λ b is e. refl
        | Some c ↦ elim [
          | true ↦ λ is e.
              let none : IsKeyIn row (Some c) None = subst (λ (o : Option ℕ). IsKeyIn row o None) (ap kept (eqb-true row.entry.table q.table e) ∙ is) h in
              ap (λ b. b && compares cmp.Eq (value_at row.entry.values c) (value_of q.content)) e ∙ equal_back (value_at row.entry.values c) (value_of q.content) ∙ none (value_of q.content)
          | false ↦ λ is e. ap (λ b. b && compares cmp.Eq (value_at row.entry.values c) (value_of q.content)) e
        ]
      ] in
      step (kept q.table) (row.entry.table == q.table) refl refl

  pub first_found : (rows : List Inserted) (row : Inserted) (key : KeptValue) (found : Option ℕ) → IsKeyIn row (kept row.entry.table) (Some key) → found ≡ position_from (has_kept shapes key) 0 rows → found ≡ first_alike shapes rows row
  first_found rows row key found h is =
      let own = own_of row key h in
      is ∙ had_in key row.entry.table own.column (value_at row.entry.values own.column) own.table own.has own.by rows ∙ ap (alike_in rows row) (sym own.by)

  pub first_none : (rows : List Inserted) (row : Inserted) → IsKeyIn row (kept row.entry.table) None → None ≡ first_alike shapes rows row
  first_none rows row h =
      let step : (o : Option ℕ) → IsKeyIn row o None → None ≡ alike_in rows row o =
      elim [ None ↦ λ f. refl | Some column ↦ λ f. nothing_found row.entry.table column (value_at row.entry.values column) rows f ] in
      step (kept row.entry.table) h

  -- ---- the first rows, where one more comes

  module _ (rows : List Inserted) (row : Inserted) (old : KeptValue → Option ℕ) (firsts : (q : KeptValue) → old q ≡ position_from (has_kept shapes q) 0 rows) where
    pub firsts_same : IsKeyIn row (kept row.entry.table) None → (q : KeptValue) → old q ≡ position_from (has_kept shapes q) 0 (rows ++ row ∷ [])
    firsts_same h q = firsts q ∙ sym (not_last (has_kept shapes q) rows row (has_none row q h))

    pub firsts_more : (key : KeptValue) (place : ℕ) (new : KeptValue → Option ℕ) → IsKeyIn row (kept row.entry.table) (Some key) → length rows ≡ place
        → ((q : KeptValue) → new q ≡ cond (is_none (old key) && is_eq (kept_cmp key q)) (Some place) (old q)) → (q : KeptValue) → new q ≡ position_from (has_kept shapes q) 0 (rows ++ row ∷ [])
    firsts_more key place new h len known q =
        let own = has_own row key q (own_of row key h) in
        let t = has_kept shapes q in
        let pushed = position_from-push t 0 rows row in
        let step : (b : Bool) (o : Option ℕ) → is_eq (kept_cmp key q) ≡ b → old key ≡ o → cond (is_none o && b) (Some place) (old q) ≡ position_from t 0 (rows ++ row ∷ []) = elim [
          | true ↦ λ o e at.
              let all : position_from t 0 rows ≡ o = (λ i. position_from (λ it. sym (same_had key q it e) i) 0 rows) ∙ sym (firsts key) ∙ at in
              let any : list_any t rows ≡ is_some o = sym (is_some-position t 0 rows) ∙ ap is_some all in
              let end : t row ≡ true = own ∙ e in
              let inner : (p : Option ℕ) → position_from t 0 rows ≡ p → list_any t rows ≡ is_some p → cond (is_none p && true) (Some place) (old q) ≡ position_from t 0 (rows ++ row ∷ []) = elim [
                | None ↦ λ f g.
                    ap Some (sym len ∙ (let z : length rows ≡ 0 + length rows = omega arith in z))
                    ∙ sym (pushed ∙ (λ i. cond (g i) (position_from t 0 rows) (cond (end i) (Some (0 + length rows)) None)))
                | Some p ↦ λ f g. firsts q ∙ sym (pushed ∙ (λ i. cond (g i) (position_from t 0 rows) (cond (end i) (Some (0 + length rows)) None)))
              ] in
              inner o all any
          | false ↦ λ o e at.
              let apart : (p : Option ℕ) → cond (is_none p && false) (Some place) (old q) ≡ old q = elim [ None ↦ refl | Some p ↦ refl ] in
              apart o ∙ firsts q ∙ sym (not_last t rows row (own ∙ e))
        ] in
        known q ∙ step (is_eq (kept_cmp key q)) (old key) refl refl

-- ---- what is left of the values

is_equal : (o : Ordering) → is_eq o ≡ true → o ≡ order.Equal
is_equal order.Less h = absurd cc
is_equal order.Equal h = refl
is_equal order.Greater h = absurd cc

-- no later value is one with an earlier one
none_later : (q k : KeptValue) (es : List (KeptValue × ℕ)) → is_eq (kept_cmp q k) ≡ true → AllByRecursion (λ y. kept_cmp k y ≡ order.Less) (keys_of es) → lookup (λ y. is_eq (kept_cmp q y)) es ≡ None
none_later q k [] same less = refl
none_later q k (e ∷ es) same less =
    ap (λ b. cond b (Some e.1) (lookup (λ y. is_eq (kept_cmp q y)) es)) (ap is_eq (total-law.congr q k e.0 (is_equal (kept_cmp q k) same) ∙ less.0)) ∙ none_later q k es same less.1

module _ {F : Type 0} (Call : F → KeptValue → ℕ → Bool → ℕ → F → Type 0) (Holds : F → Type 0) (len : ℕ)
    (says : (f : F) (k : KeptValue) (v : ℕ) (b : Bool) (w : ℕ) (g : F) → Holds f → Call f k v b w g → (b ≡ nat_lt v len) × (w ≡ v) × Holds g) (q : KeptValue) where
  pub left_below : (f : F) (es left : List (KeptValue × ℕ)) → Holds f → RetainsPairs Call f es left → IsStrictlySortedBy kept_cmp (keys_of es)
      → lookup (λ y. is_eq (kept_cmp q y)) left ≡ below len (lookup (λ y. is_eq (kept_cmp q y)) es)
  left_below f [] left holds calls sorted = rw calls refl
  left_below f (e ∷ es) left holds (b, w, g, rest, call, calls, is) sorted =
      let t : KeptValue → Bool = λ y. is_eq (kept_cmp q y) in
      let said = says f e.0 e.1 b w g holds call in
      let later = left_below g es rest said.2 calls (sorted_tail kept_cmp e.0 (keys_of es) sorted) in
      let step : (c d : Bool) → t e.0 ≡ c → b ≡ d → lookup t (cond d ((e.0, w) ∷ rest) rest) ≡ below len (cond c (Some e.1) (lookup t es)) = elim [
        | true ↦ elim [
          | true ↦ λ here kept.
              ap (λ x. cond x (Some w) (lookup t rest)) here ∙ ap Some said.1 ∙ sym (ap (λ x. cond x (Some e.1) None) (sym said.0 ∙ kept))
          | false ↦ λ here kept.
              later ∙ ap (below len) (none_later q e.0 es here (sorted_head kept_cmp e.0 (keys_of es) sorted)) ∙ sym (ap (λ x. cond x (Some e.1) None) (sym said.0 ∙ kept))
        ]
        | false ↦ elim [ true ↦ λ here kept. ap (λ x. cond x (Some w) (lookup t rest)) here ∙ later | false ↦ λ here kept. later ]
      ] in
      ap (lookup t) is ∙ step (t e.0) b refl refl
