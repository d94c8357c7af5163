-- Which names are seen, level by level.
use Rattle.std.proofs.Common.{◌≡◌, ℕ, ◌+◌, Bool, true, false, not, ◌&&◌, ◌||◌, cond, List, [], ◌∷◌, map, filter, refl, sym, ap, ◌∙◌, add-one}
use Rattle.std.specs.List.{list_any}
use Rattle.std.proofs.lemmas.Bool.{and_parts}
use Rattle.update_model.specs.declared.row_name.RowName.{RowName}
use Rattle.update_model.specs.declared.value.Value.{Value}
use Rattle.update_model.specs.declared.value.Value.TheVariants as value
use Rattle.schema.specs.declared.column.Column.{Column}
use Rattle.schema.specs.declared.column.ColumnKind.{ColumnKind}
use Rattle.schema.specs.declared.table_def.TableDef.{TableDef}
use Rattle.schema.specs.Columns.{target_of}
use Rattle.schema.specs.Data.{Meaning}
use Rattle.table_model.specs.Visible.{TableRow, Effects, is_candidate, is_least, same_row, shows, is_nulled, visible_to, visible_rows, shown, shown_rows, shown_value, shown_values, table_of, rules_with, bare_rules}
use Rattle.table_model.proofs.Order.{any_weaker}
use Rattle.table_model.proofs.Standing.{row_from_same}
use Rattle.confluence_checker.specs.Forms.{is_among}
use Rattle.confluence_checker.specs.Seeing.{SeesTo, SeesAll, shown_by, shown_values_by, shown_row_by}
use Rattle.confluence_checker.proofs.Same.{same_turned}

-- one row more, whose name passes or not, and is the one that is asked for or not
one_passing : (q : RowName → Bool) (name here : RowName) (others : List RowName) (any : Bool) → is_among others name ≡ (q name && any)
    → (b : Bool) → q here ≡ b → (s : Bool) → same_row name here ≡ s → is_among (cond b (here ∷ others) others) name ≡ (q name && (same_row here name || any))
one_passing q name here others any told true e true s =
    let at : q name ≡ true = ap q (row_from_same name here s) ∙ e in
    ap (λ (x : Bool). x || is_among others name) s ∙ sym (ap (λ (x : Bool). x && (same_row here name || any)) at ∙ ap (λ (x : Bool). x || any) (same_turned here name ∙ s))
one_passing q name here others any told true e false s =
    ap (λ (x : Bool). x || is_among others name) s ∙ told ∙ sym (ap (λ (x : Bool). q name && (x || any)) (same_turned here name ∙ s))
one_passing q name here others any told false e true s =
    let at : q name ≡ false = ap q (row_from_same name here s) ∙ e in
    told ∙ ap (λ (x : Bool). x && any) at ∙ sym (ap (λ (x : Bool). x && (same_row here name || any)) at)
one_passing q name here others any told false e false s = told ∙ sym (ap (λ (x : Bool). q name && (x || any)) (same_turned here name ∙ s))

map_cond : (b : Bool) (row : TableRow) (rows : List TableRow) → map (λ r. r.name) (cond b (row ∷ rows) rows) ≡ cond b (row.name ∷ map (λ r. r.name) rows) (map (λ r. r.name) rows)
map_cond true row rows = refl
map_cond false row rows = refl

nothing_passes : (b : Bool) → false ≡ (b && false)
nothing_passes true = refl
nothing_passes false = refl

-- the names of those rows whose names pass a test are the names that pass and that a row has
names_passing : (q : RowName → Bool) (name : RowName) (rows : List TableRow)
    → is_among (map (λ row. row.name) (filter (λ row. q row.name) rows)) name ≡ (q name && list_any (λ row. same_row row.name name) rows)
names_passing q name [] = nothing_passes (q name)
names_passing q name (row ∷ rows) =
    let kept = filter (λ (r : TableRow). q r.name) rows in
    ap (λ (l : List RowName). is_among l name) (map_cond (q row.name) row kept)
    ∙ one_passing q name row.name (map (λ r. r.name) kept) (list_any (λ r. same_row r.name name) rows) (names_passing q name rows) (q row.name) refl (same_row name row.name) refl

and_follows : (x y : Bool) → (x ≡ true → y ≡ true) → (x && y) ≡ x
and_follows true y h = h refl
and_follows false y h = refl

-- the names of the rows that are shown are what is shown
names_shown : (tables : List TableDef) (did : Effects) (seen : RowName → Bool) (name : RowName)
    → is_among (map (λ row. row.name) (filter (λ row. shows (bare_rules tables) did seen row.name) did.inserted)) name ≡ shows (bare_rules tables) did seen name
names_shown tables did seen name =
    names_passing (shows (bare_rules tables) did seen) name did.inserted
    ∙ and_follows (shows (bare_rules tables) did seen name) (list_any (λ row. same_row row.name name) did.inserted)
    (any_weaker (λ row. same_row row.name name && (is_candidate (bare_rules tables) did seen row && is_least (bare_rules tables) did seen row)) (λ row. same_row row.name name)
    (λ row two. (and_parts (same_row row.name name) _ two).0) did.inserted)

-- one level deeper
pub sees_deeper : (tables : List TableDef) (did : Effects) (depth : ℕ) (seen names : List RowName) → SeesTo tables did depth seen
    → names ≡ map (λ row. row.name) (filter (λ row. shows (bare_rules tables) did (is_among seen) row.name) did.inserted) → SeesTo tables did (depth + 1) names
unfolding visible_to
sees_deeper tables did depth seen names sees is ask name =
    ap (λ (l : List RowName). is_among l name) is ∙ names_shown tables did (is_among seen) name
    ∙ (λ i. shows (rules_with ask tables) did (λ n. sees ask n i) name)
    ∙ ap (λ (k : ℕ). visible_to (rules_with ask tables) did k name) (sym (add-one depth))

-- nothing is seen where no reference is followed
pub sees_nothing : (tables : List TableDef) (did : Effects) (names : List RowName) → names ≡ [] → SeesTo tables did 0 names
unfolding visible_to
sees_nothing tables did names none ask name = ap (λ (l : List RowName). is_among l name) none

-- the rows that are seen
pub visible_seen : (tables : List TableDef) (did : Effects) (seen : List RowName) (rows : List TableRow) → SeesAll tables did seen
    → rows ≡ filter (λ row. is_among seen row.name) did.inserted → (ask : Meaning) → rows ≡ visible_rows (rules_with ask tables) did
visible_seen tables did seen rows sees is ask = is ∙ (λ i. filter (λ row. sees ask row.name i) did.inserted)

value_seen : (tables : List TableDef) (did : Effects) (seen : List RowName) → SeesAll tables did seen → (ask : Meaning) (kind : ColumnKind) (v : Value)
    → shown_by seen kind v ≡ shown_value (rules_with ask tables) did kind v
value_seen tables did seen sees ask kind (value.Row name) = λ i. cond (is_nulled (target_of kind) && not (sees ask name i)) value.Null (value.Row name)
value_seen tables did seen sees ask kind value.Null = refl
value_seen tables did seen sees ask kind (value.Int n) = refl
value_seen tables did seen sees ask kind (value.Text bytes) = refl
value_seen tables did seen sees ask kind (value.Flag flag) = refl
value_seen tables did seen sees ask kind (value.Own index) = refl

values_seen : (tables : List TableDef) (did : Effects) (seen : List RowName) → SeesAll tables did seen → (ask : Meaning) (columns : List Column) (values : List Value)
    → shown_values_by seen columns values ≡ shown_values (rules_with ask tables) did columns values
values_seen tables did seen sees ask [] values = refl
values_seen tables did seen sees ask (column ∷ columns) [] = refl
values_seen tables did seen sees ask (column ∷ columns) (v ∷ values) =
    λ i. value_seen tables did seen sees ask column.kind v i ∷ values_seen tables did seen sees ask columns values i

row_seen : (tables : List TableDef) (did : Effects) (seen : List RowName) → SeesAll tables did seen → (ask : Meaning) (row : TableRow)
    → shown_row_by tables seen row ≡ shown (rules_with ask tables) did row
row_seen tables did seen sees ask row =
    ap (λ (values : List Value). record row { values = values }) (values_seen tables did seen sees ask (table_of (bare_rules tables) row.table).columns row.values)

-- what the rows that are seen show
pub shown_seen : (tables : List TableDef) (did : Effects) (seen : List RowName) (rows shown : List TableRow) → SeesAll tables did seen
    → rows ≡ filter (λ row. is_among seen row.name) did.inserted → shown ≡ map (shown_row_by tables seen) rows → (ask : Meaning) → shown ≡ shown_rows (rules_with ask tables) did
shown_seen tables did seen rows shown sees is made ask =
    made ∙ ap (map (shown_row_by tables seen)) (visible_seen tables did seen rows sees is ask)
    ∙ (λ i. map (λ row. row_seen tables did seen sees ask row i) (visible_rows (rules_with ask tables) did))
