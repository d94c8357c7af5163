-- Which values are taken, in words of what is asked.
use Rattle.std.proofs.Common.{◌≡◌, ℕ, ◌+◌, ◌≤◌, ◌==◌, Bool, true, false, cond, not, ◌&&◌, ◌||◌, nat_le, List, [], ◌∷◌, ◌++◌, filter, refl, sym, ap, ◌∙◌, append_assoc, append-nil, arith, Option, Some, None}
use Rattle.std.specs.Prelude.{count_by, find, is_some, option_map}
use Rattle.std.specs.List.{list_any}
use Rattle.std.proofs.lemmas.Bool.{eqb-true}
use Rattle.std.proofs.lemmas.Bool.Decides.{nat_tests}
use Rattle.std.proofs.lemmas.List.Folds.{list_any-append}
use Rattle.std.proofs.lemmas.List.Sums.{sum_by-append, sum_by-cons, sum_by-le-sum_by}
use Rattle.update_model.specs.declared.row_entry.RowEntry.{RowEntry}
use Rattle.update_model.specs.declared.row_name.RowName.{RowName}
use Rattle.update_model.specs.declared.value.Value.{Value}
use Rattle.row_check.specs.declared.cmp.Cmp.TheVariants as cmp
use Rattle.row_check.specs.Comparisons.{compares}
use Rattle.row_check.specs.Meaning.{value_at}
use Rattle.schema.specs.declared.table_def.TableDef.{TableDef}
use Rattle.schema.specs.Numbers.{table_number}
use Rattle.table_model.specs.Answers.{entry_in, entry_of_row, equal_in}
use Rattle.table_model.specs.Verdicts.{are_new, in_table, is_new_in, left_of}
use Rattle.table_model.specs.Visible.{Rules, TableRow, kept_of, same_row}
use Rattle.table_model.proofs.EqualValues.{equal_back}
use Rattle.table_model.proofs.Standing.{row_from_same}
use Rattle.validity.specs.declared.kept_values.Freed.{Freed}
use Rattle.validity.specs.declared.own_row.OwnRow.{OwnRow}
use Rattle.validity.specs.Asked.{are_free, freed_at, freed_by, freed_in, has_value, is_freed, is_free, row_of}

-- ---- counts of lists

abbrev pub unit : Bool → ℕ
unit b = cond b 1 0

and_true : (b : Bool) → (b && true) ≡ b
and_true true = refl
and_true false = refl

and_false : (b : Bool) → (b && false) ≡ false
and_false true = refl
and_false false = refl

either : (h a b : Bool) → (a ≡ true → b ≡ false) → unit (h && (a || b)) ≡ unit (h && a) + unit (h && b)
either true true b other = ap (λ x. 1 + unit x) (sym (other refl))
either true false b other = omega arith
either false a b other = refl

apart_or_not : (h b : Bool) → unit h ≡ unit (h && b) + unit (h && not b)
apart_or_not true true = refl
apart_or_not true false = refl
apart_or_not false b = refl

not_either : (a b : Bool) → (not a && not b) ≡ not (a || b)
not_either true b = refl
not_either false b = refl

and_turn : (a b c : Bool) → (a && (b && c)) ≡ (b && (a && c))
and_turn true b c = refl
and_turn false true c = refl
and_turn false false c = refl

-- what passes a test passes one of two others
count_split : {X : Type 0} (f g h : X → Bool) (xs : List X) → ((x : X) → unit (f x) ≡ unit (g x) + unit (h x)) → count_by f xs ≡ count_by g xs + count_by h xs
count_split f g h [] each = refl
count_split f g h (x ∷ xs) each =
    let a = sum_by-cons (λ y. unit (f y)) x xs in
    let b = sum_by-cons (λ y. unit (g y)) x xs in
    let c = sum_by-cons (λ y. unit (h y)) x xs in
    let e = each x in
    let rest = count_split f g h xs each in
    omega (arith, a, b, c, e, rest)

count_none : {X : Type 0} (p : X → Bool) (xs : List X) → ((x : X) → p x ≡ false) → count_by p xs ≡ 0
count_none p [] each = refl
count_none p (x ∷ xs) each =
    let a = sum_by-cons (λ y. unit (p y)) x xs in
    let e : unit (p x) ≡ 0 = ap unit (each x) in
    let rest = count_none p xs each in
    omega (arith, a, e, rest)

not_none : (n : ℕ) → (1 + n == 0) ≡ false
not_none n = grind (arith, nat_tests)

-- whether one passes a test is whether the count is not 0
any_count : {X : Type 0} (p : X → Bool) (xs : List X) → not (list_any p xs) ≡ (count_by p xs == 0)
any_count p [] = refl
any_count p (x ∷ xs) =
    let step : (b : Bool) → p x ≡ b → not (b || list_any p xs) ≡ (unit b + count_by p xs == 0) =
    elim [
      | true ↦ λ e. let z : (1 + count_by p xs == 0) ≡ false = not_none (count_by p xs) in sym z
      | false ↦ λ e. let z : count_by p xs ≡ unit false + count_by p xs = omega arith in any_count p xs ∙ ap (λ n. n == 0) z
    ] in
    step (p x) refl ∙ ap (λ n. n == 0) (sym (sum_by-cons (λ y. unit (p y)) x xs))

-- what is left of a list by a filter, counted
count_filter : {X : Type 0} (p q : X → Bool) (xs : List X) → count_by p (filter q xs) ≡ count_by (λ x. p x && q x) xs
count_filter p q [] = refl
count_filter p q (x ∷ xs) =
    let rest = count_filter p q xs in
    let later = sum_by-cons (λ y. unit (p y && q y)) x xs in
    let step : (b : Bool) → q x ≡ b → count_by p (cond b (x ∷ filter q xs) (filter q xs)) ≡ unit (p x && b) + count_by (λ y. p y && q y) xs =
    elim [
      | true ↦ λ e. sum_by-cons (λ y. unit (p y)) x (filter q xs) ∙ (λ i. unit (sym (and_true (p x)) i) + rest i)
      | false ↦ λ e. let v : unit (p x && false) ≡ 0 = ap unit (and_false (p x)) in rest ∙ omega (arith, v)
    ] in
    step (q x) refl ∙ sym later

-- no more than so many, and some beside them
le_beside : (f c : ℕ) → nat_le (f + c) f ≡ (c == 0)
le_beside f c = grind (arith, nat_tests)

count_fewer : {X : Type 0} (f g : X → Bool) (xs : List X) → count_by (λ x. f x && g x) xs ≤ count_by g xs
count_fewer f g xs = sum_by-le-sum_by (λ x. unit (f x && g x)) (λ x. unit (g x)) xs (λ x. fewer (f x) (g x))
  where
    fewer : (a b : Bool) → unit (a && b) ≤ unit b
    fewer true b = omega arith
    fewer false true = omega arith
    fewer false false = omega arith

count_one : {X : Type 0} (p : X → Bool) (x : X) → count_by p (x ∷ []) ≡ unit (p x)
count_one p x = let a = sum_by-cons (λ y. unit (p y)) x [] in let none : count_by p [] ≡ 0 = refl in omega (arith, a, none)

-- No name stands twice.
abbrev pub AreApart : List RowName → Type 0
AreApart [] = Unit {0}
AreApart (name ∷ names) = (list_any (same_row name) names ≡ false) × AreApart names

-- ---- what is left free

module _ (rules : Rules) (row : RowName → Option RowEntry) (equal : ℕ → ℕ → Value → ℕ) (visible : List TableRow) where
  -- whether a row is of a table and has a value in a column
  abbrev pub has : ℕ → ℕ → Value → TableRow → Bool
  has table column value x = in_table table x && compares cmp.Eq (value_at x.values column) value

  -- the same, the other way round
  abbrev pub meets : ℕ → ℕ → Value → TableRow → Bool
  meets table column value x = in_table table x && compares cmp.Eq value (value_at x.values column)

  any_back : (table column : ℕ) (value : Value) (rows : List TableRow) → list_any (has table column value) rows ≡ list_any (meets table column value) rows
  any_back table column value rows = λ i. list_any (λ x. in_table table x && equal_back (value_at x.values column) value i) rows

  -- what a row leaves free, counted
  freed_one : (table column : ℕ) (value : Value) → kept_of rules table ≡ Some column → (r : TableRow)
      → count_by (is_freed table value) (freed_in rules.tables (Some (entry_of_row r))) ≡ unit (has table column value r)
  freed_one table column value kept r =
      let other : (o : Option ℕ) → (r.table == table) ≡ false → count_by (is_freed table value) (freed_at (entry_of_row r) o) ≡ 0 =
      elim [
        | None ↦ λ e. refl
        | Some c ↦ λ e. count_one (is_freed table value) (record { table = r.table; value = value_at r.values c }) ∙ ap (λ b. unit (b && compares cmp.Eq (value_at r.values c) value)) e
      ] in
      let step : (b : Bool) → (r.table == table) ≡ b → count_by (is_freed table value) (freed_at (entry_of_row r) (kept_of rules r.table)) ≡ unit (b && compares cmp.Eq (value_at r.values column) value) =
      elim [
        | true ↦ λ e.
            ap (λ o. count_by (is_freed table value) (freed_at (entry_of_row r) o)) (ap (kept_of rules) (eqb-true r.table table e) ∙ kept)
            ∙ count_one (is_freed table value) (record { table = r.table; value = value_at r.values column })
            ∙ ap (λ b. unit (b && compares cmp.Eq (value_at r.values column) value)) e
        | false ↦ λ e. other (kept_of rules r.table) e
      ] in
      step (r.table == table) refl

  -- what the row with a name leaves free, counted among rows of which one at most has it
  freed_named : (table column : ℕ) (value : Value) → kept_of rules table ≡ Some column → (name : RowName) (rows : List TableRow)
      → count_by (λ x. same_row x.name name) rows ≤ 1
      → count_by (is_freed table value) (freed_in rules.tables (entry_in rows name)) ≡ count_by (λ x. has table column value x && same_row x.name name) rows
  freed_named table column value kept name [] few = refl
  freed_named table column value kept name (r ∷ rs) few =
      let all = sum_by-cons (λ (x : TableRow). unit (same_row x.name name)) r rs in
      let here = sum_by-cons (λ (x : TableRow). unit (has table column value x && same_row x.name name)) r rs in
      let fewer = count_fewer (has table column value) (λ (x : TableRow). same_row x.name name) rs in
      let one = freed_one table column value kept r in
      let step : (b : Bool) → same_row r.name name ≡ b
      → count_by (is_freed table value) (freed_in rules.tables (option_map entry_of_row (cond b (Some r) (find (λ (x : TableRow). same_row x.name name) rs))))
      ≡ unit (has table column value r && b) + count_by (λ x. has table column value x && same_row x.name name) rs =
      elim [
        | true ↦ λ e.
            let u : unit (same_row r.name name) ≡ 1 = ap unit e in
            let v : unit (has table column value r && true) ≡ unit (has table column value r) = ap unit (and_true (has table column value r)) in
            let none : count_by (λ x. has table column value x && same_row x.name name) rs ≡ 0 = omega arith in
            one ∙ omega (arith, v, none)
        | false ↦ λ e.
            let u : unit (same_row r.name name) ≡ 0 = ap unit e in
            let v : unit (has table column value r && false) ≡ 0 = ap unit (and_false (has table column value r)) in
            let later = freed_named table column value kept name rs (omega arith) in
            later ∙ omega (arith, v)
      ] in
      step (same_row r.name name) refl ∙ sym here

  module _ (row_is : (name : RowName) → row name ≡ entry_in visible name) (single : (name : RowName) → count_by (λ x. same_row x.name name) visible ≤ 1) (equal_is : (table column : ℕ) (value : Value) → equal table column value ≡ equal_in visible table column value) where
    -- what names leave free, counted among the visible rows
    freed_all : (table column : ℕ) (value : Value) → kept_of rules table ≡ Some column → (names : List RowName) → AreApart names
        → count_by (is_freed table value) (freed_by rules.tables row names) ≡ count_by (λ x. has table column value x && list_any (same_row x.name) names) visible
    freed_all table column value kept [] apart = sym (count_none (λ x. has table column value x && false) visible (λ x. and_false (has table column value x)))
    freed_all table column value kept (name ∷ names) apart =
        let both = sum_by-append (λ f. unit (is_freed table value f)) (freed_in rules.tables (row name)) (freed_by rules.tables row names) in
        let first = ap (λ o. count_by (is_freed table value) (freed_in rules.tables o)) (row_is name) ∙ freed_named table column value kept name visible (single name) in
        let rest = freed_all table column value kept names apart.1 in
        let parts =
        count_split (λ (x : TableRow). has table column value x && (same_row x.name name || list_any (same_row x.name) names))
        (λ (x : TableRow). has table column value x && same_row x.name name) (λ (x : TableRow). has table column value x && list_any (same_row x.name) names) visible
        (λ x. either (has table column value x) (same_row x.name name) (list_any (same_row x.name) names)
        (λ e. ap (λ n. list_any (same_row n) names) (row_from_same x.name name e) ∙ apart.0)) in
        omega (arith, both, first, rest, parts)

    -- visible rows of a value are left free as often as they are many exactly where none is left
    pub left_free : (table column : ℕ) (value : Value) → kept_of rules table ≡ Some column → (names : List RowName) → AreApart names
        → nat_le (equal table column value) (count_by (is_freed table value) (freed_by rules.tables row names)) ≡ not (list_any (meets table column value) (left_of visible names))
    left_free table column value kept names apart =
        let gone : TableRow → Bool = λ x. list_any (same_row x.name) names in
        let f : ℕ = count_by (λ x. has table column value x && list_any (same_row x.name) names) visible in
        let c : ℕ = count_by (λ x. has table column value x && not (list_any (same_row x.name) names)) visible in
        let parts : equal table column value ≡ f + c =
        equal_is table column value
        ∙ count_split (has table column value) (λ x. has table column value x && list_any (same_row x.name) names)
        (λ x. has table column value x && not (list_any (same_row x.name) names)) visible (λ x. apart_or_not (has table column value x) (list_any (same_row x.name) names)) in
        (λ i. nat_le (parts i) (freed_all table column value kept names apart i))
        ∙ le_beside f c
        ∙ ap (λ n. n == 0) (sym (count_filter (has table column value) (λ x. not (list_any (same_row x.name) names)) visible))
        ∙ sym (any_count (has table column value) (left_of visible names))
        ∙ ap not (any_back table column value (left_of visible names))

-- ---- in whatever order

-- What names leave free is what others do, in whatever order.
pub record SameFreed (tables : List TableDef) (row : RowName → Option RowEntry) (names others : List RowName) : Type 0 where
  pub freed : (p : Freed → Bool) → count_by p (freed_by tables row names) ≡ count_by p (freed_by tables row others)

freed_append : (tables : List TableDef) (row : RowName → Option RowEntry) (xs ys : List RowName) → freed_by tables row (xs ++ ys) ≡ freed_by tables row xs ++ freed_by tables row ys
freed_append tables row [] ys = refl
freed_append tables row (x ∷ xs) ys = ap (λ l. freed_in tables (row x) ++ l) (freed_append tables row xs ys) ∙ sym (append_assoc (freed_in tables (row x)) (freed_by tables row xs) (freed_by tables row ys))

pub more_freed : (tables : List TableDef) (row : RowName → Option RowEntry) (names others : List RowName) (name : RowName) → SameFreed tables row names others
    → SameFreed tables row (names ++ name ∷ []) (name ∷ others)
more_freed tables row names others name s = record {
  freed = λ p.
      let all = ap (count_by p) (freed_append tables row names (name ∷ [])) in
      let two = sum_by-append (λ f. unit (p f)) (freed_by tables row names) (freed_in tables (row name) ++ []) in
      let last = sum_by-append (λ f. unit (p f)) (freed_in tables (row name)) [] in
      let none : count_by p [] ≡ 0 = refl in
      let front = sum_by-append (λ f. unit (p f)) (freed_in tables (row name)) (freed_by tables row others) in
      let same = s.freed p in
      omega (arith, all, two, last, none, front, same);
}

-- ---- own rows beside others

module _ (rules : Rules) (equal : ℕ → ℕ → Value → ℕ) where
  -- A value is left free as often as visible rows have it exactly where none of these rows has it.
  pub record AreLeft (freed : List Freed) (beside : List TableRow) : Type 0 where
    pub is : (table column : ℕ) (value : Value) → kept_of rules table ≡ Some column
        → nat_le (equal table column value) (count_by (is_freed table value) freed) ≡ not (list_any (λ x. in_table table x && compares cmp.Eq value (value_at x.values column)) beside)

  free_one : (freed : List Freed) (beside : List TableRow) → AreLeft freed beside → (before : List OwnRow) (older : List TableRow)
      → ((p : TableRow → Bool) → list_any (λ x. p (row_of x)) before ≡ list_any p older) → (o : OwnRow) (kept : Option ℕ) → kept_of rules o.entry.table ≡ kept
      → is_free equal freed before o.entry kept ≡ is_new_in kept (older ++ beside) (row_of o)
  free_one freed beside left before older same o None is = refl
  free_one freed beside left before older same o (Some column) is =
      let table : ℕ = o.entry.table in
      let value : Value = value_at o.entry.values column in
      let own : list_any (λ x. has_value table column value x.entry) before ≡ list_any (λ x. in_table table x && compares cmp.Eq value (value_at x.values column)) older =
      same (λ x. in_table table x && compares cmp.Eq (value_at x.values column) value)
      ∙ (λ i. list_any (λ x. in_table table x && equal_back (value_at x.values column) value i) older) in
      (λ i. not (own i) && left.is table column value is i)
      ∙ not_either (list_any (λ x. in_table table x && compares cmp.Eq value (value_at x.values column)) older)
      (list_any (λ x. in_table table x && compares cmp.Eq value (value_at x.values column)) beside)
      ∙ ap not (sym (list_any-append (λ x. in_table table x && compares cmp.Eq value (value_at x.values column)) older beside))

  free_more : (freed : List Freed) (before own : List OwnRow) (o : OwnRow)
      → are_free rules.tables equal freed before (own ++ o ∷ []) ≡ (is_free equal freed (before ++ own) o.entry (kept_of rules o.entry.table) && are_free rules.tables equal freed before own)
  free_more freed before [] o = ap (λ l. is_free equal freed l o.entry (kept_of rules o.entry.table) && true) (sym (append-nil before))
  free_more freed before (x ∷ own) o =
      ap (λ b. is_free equal freed before x.entry (kept_of rules x.entry.table) && b)
      (free_more freed (before ++ x ∷ []) own o
      ∙ ap (λ l. is_free equal freed l o.entry (kept_of rules o.entry.table) && are_free rules.tables equal freed (before ++ x ∷ []) own) (append_assoc before (x ∷ []) own))
      ∙ and_turn (is_free equal freed before x.entry (kept_of rules x.entry.table)) (is_free equal freed (before ++ x ∷ own) o.entry (kept_of rules o.entry.table)) _

  -- Own rows are asked what the same rows are asked, newest first.
  pub record SameNew (own : List OwnRow) (rows : List TableRow) : Type 0 where
    pub new : (freed : List Freed) (beside : List TableRow) → AreLeft freed beside → are_free rules.tables equal freed [] own ≡ are_new rules beside rows

  pub no_new : SameNew [] []
  no_new = record { new = λ freed beside left. refl }

  pub more_new : (own : List OwnRow) (rows : List TableRow) (o : OwnRow) → ((p : TableRow → Bool) → list_any (λ x. p (row_of x)) own ≡ list_any p rows)
      → SameNew own rows → SameNew (own ++ o ∷ []) (row_of o ∷ rows)
  more_new own rows o same s = record {
    new = λ freed beside left.
        free_more freed [] own o
        ∙ (λ i. free_one freed beside left own rows same o (kept_of rules o.entry.table) refl i && s.new freed beside left i);
  }

-- where no table of these rows keeps the least row, nothing is taken
pub none_kept : (tables : List TableDef) (equal : ℕ → ℕ → Value → ℕ) (freed : List Freed) (before own : List OwnRow)
    → list_any (λ o. is_some (table_number tables o.entry.table).kept) own ≡ false → true ≡ are_free tables equal freed before own
none_kept tables equal freed before [] h = refl
none_kept tables equal freed before (o ∷ own) h =
    let step : (k : Option ℕ) → (is_some k || list_any (λ (x : OwnRow). is_some (table_number tables x.entry.table).kept) own) ≡ false
    → true ≡ (is_free equal freed before o.entry k && are_free tables equal freed (before ++ o ∷ []) own) =
    elim [ None ↦ λ e. none_kept tables equal freed (before ++ o ∷ []) own e | Some c ↦ λ e. absurd cc ] in
    step (table_number tables o.entry.table).kept h
