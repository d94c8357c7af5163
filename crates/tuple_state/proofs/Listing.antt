-- The rows that a table lists, by what a state holds.
use Rattle.tuple_state.specs.declared.shape.Shape.{Shape}
use Rattle.std.proofs.Common.{◌≡◌, ℕ, zero, suc, ◌+◌, Bool, true, false, cond, ◌&&◌, List, [], ◌∷◌, ◌++◌, length, map, reverse, refl, sym, ap, ◌∙◌, subst, None}
use Rattle.std.specs.Prelude.{filter}
use Rattle.std.specs.Ordering.{eq_by_cmp}
use Rattle.std.specs.List.Sorted.{IsPermutation, IsStrictlySortedBy}
use Rattle.std.proofs.lemmas.Cmp.{eq_by_cmp_equiv}
use Rattle.std.proofs.lemmas.List.{map-append}
use Rattle.std.proofs.lemmas.List.Elements.{filter-append}
use Rattle.std.proofs.lemmas.List.Sorted.{IsPermutation-map, IsPermutation-reverse, IsPermutation-sym, IsPermutation-trans}
use Rattle.std.proofs.lemmas.Map.Keys.{IsDistinct-IsPermutation}
use Rattle.update_model.specs.declared.row_name.RowName.{RowName}
use Rattle.update_model.specs.declared.value.Value.{Value}
use Rattle.update_model.specs.declared.value.Value.TheVariants as value
use Rattle.update_model.specs.Node.{NodeData}
use Rattle.schema.specs.declared.column.Column.{Column}
use Rattle.schema.specs.declared.column.ColumnKind.{ColumnKind}
use Rattle.table_model.specs.declared.shown_row.ShownRow.{ShownRow}
use Rattle.table_model.specs.Invariants.{shown_in}
use Rattle.table_model.specs.Tables.{AreRowsIn, HasDistinctNames, listed, listed_in, name_cmp}
use Rattle.table_model.proofs.Rising.{listed_distinct, name_cmp_total, shown_distinct}
use Rattle.table_model.specs.Verdicts.{in_table}
use Rattle.table_model.specs.Visible.{Effects, Rules, TableRow, is_visible, shown, shown_rows, shown_value, shown_values, table_of}
use Rattle.tuple_state.specs.declared.inserted.Inserted.{Inserted}
use Rattle.tuple_state.specs.Arrived.{arrived}
use Rattle.tuple_state.specs.Kept.{place_of}
use Rattle.tuple_state.specs.Parents.{columns_at}
use Rattle.tuple_state.specs.Showing.{shown_by, shown_values_by}
use Rattle.tuple_state.specs.State.{IsStateOf, State, done_in, row_of, rules_of_state, rules_over}
use Rattle.tuple_state.proofs.Layers.{SameShapes, same_visible, unnamed_hidden}
use Rattle.tuple_state.proofs.Lookups.{shapes_same, did_same, reverse_cons, unnamed_from_none}

-- ---- what values show

one_shown : (rules : Rules) (did : Effects) (kind : ColumnKind) (v : Value) → shown_by (is_visible rules did) kind v ≡ shown_value rules did kind v
one_shown rules did kind value.Null = refl
one_shown rules did kind (value.Int n) = refl
one_shown rules did kind (value.Text text) = refl
one_shown rules did kind (value.Flag flag) = refl
one_shown rules did kind (value.Row name) = refl
one_shown rules did kind (value.Own number) = refl

pub all_shown : (rules : Rules) (did : Effects) (columns : List Column) (values : List Value) → shown_values_by (is_visible rules did) columns values ≡ shown_values rules did columns values
all_shown rules did [] values = refl
all_shown rules did (column ∷ columns) [] = refl
all_shown rules did (column ∷ columns) (v ∷ values) = λ i. one_shown rules did column.kind v i ∷ all_shown rules did columns values i

-- the columns that the rules of a state give a table
pub columns_with : (shapes : List Shape) (number : ℕ) → columns_at shapes number ≡ (table_of (rules_over shapes) number).columns
columns_with [] number = refl
columns_with (shape ∷ shapes) zero = refl
columns_with (shape ∷ shapes) (suc number) = columns_with shapes number

-- what a row lists
pub values_lined : (state : State) (it : Inserted) (columns : List Column) (values list : List Value) → columns ≡ columns_at state.shapes it.entry.table → values ≡ it.entry.values
    → list ≡ shown_values_by (is_visible (rules_of_state state) (done_in state)) columns values → list ≡ (listed (shown (rules_of_state state) (done_in state) (row_of it))).values
values_lined state it columns values list at of is =
    is ∙ (λ i. shown_values_by (is_visible (rules_of_state state) (done_in state)) ((at ∙ columns_with state.shapes it.entry.table) i) (of i))
    ∙ all_shown (rules_of_state state) (done_in state) (table_of (rules_of_state state) it.entry.table).columns it.entry.values

-- ---- a name that no row has

pub none_shown : (state : State) (name : RowName) → place_of state.inserted name ≡ None → false ≡ is_visible (rules_of_state state) (done_in state) name
none_shown state name none =
    sym (unnamed_hidden (rules_of_state state) (done_in state) name (unnamed_from_none state.inserted name none) (length (done_in state).inserted))

-- ---- rules with the same columns show the same

module _ {r q : Rules} (s : SameShapes r q) (did : Effects) where
  same_values : (columns : List Column) (values : List Value) → shown_values r did columns values ≡ shown_values q did columns values
  same_values columns values =
      sym (all_shown r did columns values) ∙ (λ i. shown_values_by (λ name. same_visible s did name i) columns values) ∙ all_shown q did columns values

  same_shown : (row : TableRow) → shown r did row ≡ shown q did row
  same_shown row = λ i. record row { values = (same_values (table_of r row.table).columns row.values ∙ ap (λ (l : List Column). shown_values q did l row.values) (s.at row.table)) i }

-- ---- lists

filter_reversed : {X : Type 0} (p : X → Bool) (xs : List X) → filter p (reverse xs) ≡ reverse (filter p xs)
filter_reversed p [] = refl
filter_reversed p (x ∷ xs) =
    ap (filter p) (reverse_cons x xs) ∙ filter-append p (reverse xs) (x ∷ []) ∙ ap (λ l. l ++ filter p (x ∷ [])) (filter_reversed p xs) ∙ last (p x)
  where
    append_none : {Y : Type 0} (ys : List Y) → ys ++ [] ≡ ys
    append_none [] = refl
    append_none (y ∷ ys) = ap (λ l. y ∷ l) (append_none ys)

    last : (b : Bool) → reverse (filter p xs) ++ cond b (x ∷ []) [] ≡ reverse (cond b (x ∷ filter p xs) (filter p xs))
    last true = sym (reverse_cons x (filter p xs))
    last false = append_none (reverse (filter p xs))

map_reversed : {X Y : Type 0} (f : X → Y) (xs : List X) → map f (reverse xs) ≡ reverse (map f xs)
map_reversed f [] = refl
map_reversed f (x ∷ xs) =
    ap (map f) (reverse_cons x xs) ∙ map-append f (reverse xs) (x ∷ []) ∙ ap (λ l. l ++ f x ∷ []) (map_reversed f xs) ∙ sym (reverse_cons (f x) (map f xs))

-- those of a table among the shown ones
listed_visible : (number : ℕ) (f : TableRow → TableRow) (g : TableRow → ShownRow) (v : TableRow → Bool) → ((row : TableRow) → in_table number (f row) ≡ in_table number row)
    → (rows : List TableRow) → map g (filter (in_table number) (map f (filter v rows))) ≡ map (λ row. g (f row)) (filter (λ row. in_table number row && v row) rows)
listed_visible number f g v same [] = refl
listed_visible number f g v same (row ∷ rows) =
    let rest = listed_visible number f g v same rows in
    elim (v row) as (λ b. map g (filter (in_table number) (map f (cond b (row ∷ filter v rows) (filter v rows))))
    ≡ map (λ x. g (f x)) (cond (in_table number row && b) (row ∷ filter (λ x. in_table number x && v x) rows) (filter (λ x. in_table number x && v x) rows))) [
      | true ↦
          ap (λ b. map g (cond b (f row ∷ filter (in_table number) (map f (filter v rows))) (filter (in_table number) (map f (filter v rows))))) (same row)
          ∙ elim (in_table number row) as (λ b. map g (cond b (f row ∷ filter (in_table number) (map f (filter v rows))) (filter (in_table number) (map f (filter v rows))))
          ≡ map (λ x. g (f x)) (cond (b && true) (row ∷ filter (λ x. in_table number x && v x) rows) (filter (λ x. in_table number x && v x) rows))) [
            | true ↦ ap (λ l. g (f row) ∷ l) rest
            | false ↦ rest
          ]
      | false ↦ rest ∙ elim (in_table number row) as (λ b. map (λ x. g (f x)) (filter (λ x. in_table number x && v x) rows)
          ≡ map (λ x. g (f x)) (cond (b && false) (row ∷ filter (λ x. in_table number x && v x) rows) (filter (λ x. in_table number x && v x) rows))) [ true ↦ refl | false ↦ refl ]
    ]

-- inserted rows as table rows
mapped_kept : {X Y Z : Type 0} (f : X → Y) (g : Y → Z) (p : Y → Bool) (xs : List X) → map g (filter p (map f xs)) ≡ map (λ x. g (f x)) (filter (λ x. p (f x)) xs)
mapped_kept f g p [] = refl
mapped_kept f g p (x ∷ xs) =
    let rest = mapped_kept f g p xs in
    elim (p (f x)) as (λ b. map g (cond b (f x ∷ filter p (map f xs)) (filter p (map f xs))) ≡ map (λ y. g (f y)) (cond b (x ∷ filter (λ y. p (f y)) xs) (filter (λ y. p (f y)) xs))) [
      | true ↦ ap (λ l. g (f x) ∷ l) rest
      | false ↦ rest
    ]

-- ---- the rows that a state lists in a table, in order of arrival

-- whether a row of a table is visible, and the row as the table lists it
abbrev is_kept : State → ℕ → TableRow → Bool
is_kept state table row = in_table table row && is_visible (rules_of_state state) (done_in state) row.name

abbrev line_of : State → TableRow → ShownRow
line_of state row = listed (shown (rules_of_state state) (done_in state) row)

arrived_last : (state : State) (table : ℕ) → reverse (arrived state table) ≡ map (line_of state) (filter (is_kept state table) (done_in state).inserted)
arrived_last state table =
    ap reverse (sym (mapped_kept row_of (line_of state) (is_kept state table) state.inserted))
    ∙ sym (map_reversed (line_of state) (filter (is_kept state table) (map row_of state.inserted)))
    ∙ ap (map (line_of state)) (sym (filter_reversed (is_kept state table) (map row_of state.inserted)))

-- they are those of a closed list, the newest last
listed_now : (rules : Rules) (nodes : List NodeData) (state : State) → IsStateOf rules nodes state → (table : ℕ) → reverse (arrived state table) ≡ listed_in rules nodes table
listed_now rules nodes state held table =
    let r = rules_of_state state in
    let did = done_in state in
    let same = shapes_same rules nodes state held in
    arrived_last state table
    ∙ sym (listed_visible table (shown r did) listed (λ row. is_visible r did row.name) (λ row. refl) did.inserted)
    ∙ (λ i. map listed (filter (in_table table) (map (λ row. same_shown same did row i) (filter (λ row. same_visible same did row.name i) did.inserted))))
    ∙ ap (λ (g : Effects). map listed (filter (in_table table) (shown_rows rules g))) (did_same rules nodes state held)

-- those that a state lists, once sorted
pub rows_now : (rules : Rules) (nodes : List NodeData) (state : State) → IsStateOf rules nodes state → (table : ℕ) (lines sorted : List ShownRow) → lines ≡ arrived state table
    → (HasDistinctNames lines → IsStrictlySortedBy name_cmp (map (λ line. line.name) sorted)) → IsPermutation sorted lines → AreRowsIn rules nodes table sorted
rows_now rules nodes state held table lines sorted is rising moved =
    let last : reverse lines ≡ listed_in rules nodes table = ap reverse is ∙ listed_now rules nodes state held table in
    let apart : HasDistinctNames (reverse lines) = listed_distinct (shown_in rules nodes) table (reverse lines) (shown_distinct rules nodes held.closed) last in
    let turned = IsPermutation-sym lines (reverse lines) (IsPermutation-reverse lines) in
    record {
      rising = rising (IsDistinct-IsPermutation (eq_by_cmp name_cmp) ((eq_by_cmp_equiv name_cmp_total).symm) (map (λ (l : ShownRow). l.name) (reverse lines)) (map (λ (l : ShownRow). l.name) lines)
          (IsPermutation-map (λ (l : ShownRow). l.name) (reverse lines) lines turned) apart);
      exact = subst (λ (l : List ShownRow). IsPermutation sorted l) last (IsPermutation-trans sorted lines (reverse lines) moved (IsPermutation-reverse lines));
    }

-- ---- the rows that are lent

-- they have names of their own, and are those that a closed list shows
pub arrived_distinct : (rules : Rules) (nodes : List NodeData) (state : State) → IsStateOf rules nodes state → (table : ℕ) → HasDistinctNames (arrived state table)
arrived_distinct rules nodes state held table =
    let lines = arrived state table in
    let apart : HasDistinctNames (reverse lines) = listed_distinct (shown_in rules nodes) table (reverse lines) (shown_distinct rules nodes held.closed) (listed_now rules nodes state held table) in
    IsDistinct-IsPermutation (eq_by_cmp name_cmp) ((eq_by_cmp_equiv name_cmp_total).symm) (map (λ (l : ShownRow). l.name) (reverse lines)) (map (λ (l : ShownRow). l.name) lines)
    (IsPermutation-map (λ (l : ShownRow). l.name) (reverse lines) lines (IsPermutation-sym lines (reverse lines) (IsPermutation-reverse lines))) apart

pub arrived_shown : (rules : Rules) (nodes : List NodeData) (state : State) (table : ℕ) (rows : List ShownRow) → IsStateOf rules nodes state → IsStrictlySortedBy name_cmp (map (λ row. row.name) rows)
    → IsPermutation rows (arrived state table) → AreRowsIn rules nodes table rows
arrived_shown rules nodes state table rows held rising moved = rows_now rules nodes state held table (arrived state table) rows refl (λ _. rising) moved
