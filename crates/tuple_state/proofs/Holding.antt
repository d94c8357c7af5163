-- Rows of a table that no column refers to by RESTRICT: no row names them so.
use Rattle.tuple_state.specs.declared.shape.Shape.{Shape}
use Rattle.std.proofs.Common.{◌≡◌, ℕ, zero, suc, ◌==◌, Bool, true, false, not, ◌&&◌, ◌||◌, List, [], ◌∷◌, map, refl, sym, ap, ◌∙◌, subst, Option, None, Some, inl, inr}
use Rattle.std.specs.Prelude.{slice_get}
use Rattle.std.specs.List.{list_all, list_any}
use Rattle.std.proofs.lemmas.Bool.{and_from, and_parts, both_ways, eq-eqb, eqb-true, false_from_ne_true, or_cases, or_left, or_right}
use Rattle.update_model.specs.declared.row_name.RowName.{RowName}
use Rattle.update_model.specs.declared.value.Value.{Value}
use Rattle.update_model.specs.declared.value.Value.TheVariants as value
use Rattle.update_model.specs.Node.{NodeData}
use Rattle.schema.specs.declared.action.Action.{Action}
use Rattle.schema.specs.declared.column.Column.{Column}
use Rattle.schema.specs.declared.column.ColumnKind.{ColumnKind}
use Rattle.schema.specs.Columns.{is_restrict, target_of}
use Rattle.table_model.specs.Verdicts.{effects_in, stands_among}
use Rattle.table_model.specs.Visible.{Effects, RowRef, Rules, TableRow, is_visible, ref_in, ref_to, refs, refs_in, same_row}
use Rattle.table_model.proofs.Founded.{Founded, Sub, all-append, all_weaker, founded_closed}
use Rattle.table_model.proofs.Members.{any_mapped, any_reversed}
use Rattle.table_model.proofs.Order.{any_weaker}
use Rattle.table_model.proofs.Standing.{row_from_same}
use Rattle.tuple_state.specs.declared.inserted.Inserted.{Inserted}
use Rattle.tuple_state.specs.Kept.{are_layered, are_referred, place_of}
use Rattle.tuple_state.specs.Parents.{columns_at, holds_on_to, is_held, some_holding}
use Rattle.tuple_state.specs.Past.{child_then, done_then}
use Rattle.tuple_state.specs.State.{IsStateOf, State, done_in, row_of, rules_of_state, rules_over}
use Rattle.tuple_state.proofs.Layers.{SameShapes, Stands, each_stands, same_refs}
use Rattle.tuple_state.proofs.Lookups.{shapes_same, did_same, row_found, unnamed_from_none}
use Rattle.tuple_state.proofs.Marks.{columns_there}
use Rattle.tuple_state.proofs.Regrowth.{row_has}
use Rattle.tuple_state.proofs.Restricting.{child_is, holds_on}

-- ---- each reference names a row of the table that it is to

referred_among : (rules : Rules) (all rows : List TableRow) → Sub rows all → Founded rules rows → list_all (λ row. list_all (stands_among all) (refs rules row)) rows ≡ true
referred_among rules all [] s f = refl
referred_among rules all (row ∷ older) s f =
    and_from _ _ (all_weaker (stands_among older) (stands_among all) (λ r h. s.more _ (or_right _ _ h)) (refs rules row) f.0.referred)
    (referred_among rules all older (record { more = λ p h. s.more p (or_right (p row) _ h) }) f.1)

same_referred : {r q : Rules} → SameShapes r q → (rows : List TableRow) → are_referred r rows ≡ are_referred q rows
same_referred s rows = λ i. list_all (λ row. list_all (stands_among rows) (same_refs s row i)) rows

pub referred_now : (rules : Rules) (nodes : List NodeData) (state : State) → IsStateOf rules nodes state → are_referred (rules_of_state state) (done_in state).inserted ≡ true
referred_now rules nodes state held =
    let rows = (effects_in rules nodes).inserted in
    same_referred (shapes_same rules nodes state held) (done_in state).inserted ∙ ap (λ (g : Effects). are_referred rules g.inserted) (did_same rules nodes state held)
    ∙ referred_among rules rows rows (record { more = λ p h. h }) (founded_closed rules nodes held.closed).founded

-- ---- what a row names by RESTRICT is of a table that a column refers to by RESTRICT

-- whether that is so of a reference
abbrev held_by : (ℕ → Bool) → RowRef → Bool
held_by held r = not (is_restrict r.action) || held r.target

held_here : (n : ℕ) (b rest : Bool) → (not b || (((n == n) && b) || rest)) ≡ true
held_here n true rest = or_left _ _ (and_from _ _ (eq-eqb n n refl) refl)
held_here n false rest = refl

held_one : (kind : ColumnKind) (rest : ℕ → Bool) (v : Value) → list_all (held_by (λ t. holds_on_to t (target_of kind) || rest t)) (ref_in kind v) ≡ true
held_one kind rest (value.Row name) =
    let step : (o : Option (ℕ × Action)) → list_all (held_by (λ t. holds_on_to t o || rest t)) (ref_to name o) ≡ true =
    elim [ None ↦ refl | Some t ↦ and_from _ _ (held_here t.0 (is_restrict t.1) (rest t.0)) refl ] in
    step (target_of kind)
held_one kind rest value.Null = refl
held_one kind rest (value.Int n) = refl
held_one kind rest (value.Text bytes) = refl
held_one kind rest (value.Flag flag) = refl
held_one kind rest (value.Own index) = refl

held_more : (p q : ℕ → Bool) → ((t : ℕ) → p t ≡ true → q t ≡ true) → (r : RowRef) → held_by p r ≡ true → held_by q r ≡ true
held_more p q h r e = elim (or_cases (not (is_restrict r.action)) _ e) [ inl free ↦ or_left _ _ free | inr held ↦ or_right _ _ (h r.target held) ]

held_row : (columns : List Column) (values : List Value) → list_all (held_by (λ t. some_holding t columns)) (refs_in columns values) ≡ true
held_row [] values = refl
held_row (column ∷ columns) [] = refl
held_row (column ∷ columns) (v ∷ values) =
    all-append (held_by (λ t. some_holding t (column ∷ columns))) (ref_in column.kind v) (refs_in columns values) (held_one column.kind (λ t. some_holding t columns) v)
    (all_weaker (held_by (λ t. some_holding t columns)) (held_by (λ t. some_holding t (column ∷ columns)))
    (held_more (λ t. some_holding t columns) (λ t. some_holding t (column ∷ columns)) (λ t h. or_right (holds_on_to t (target_of column.kind)) _ h)) (refs_in columns values) (held_row columns values))

held_at : (shapes : List Shape) (number table : ℕ) → some_holding table (columns_at shapes number) ≡ true → is_held shapes table ≡ true
held_at [] number table h = absurd (cc)
held_at (shape ∷ shapes) zero table h = or_left _ _ h
held_at (shape ∷ shapes) (suc number) table h = or_right (some_holding table shape.columns) _ (held_at shapes number table h)

held_refs : (shapes : List Shape) (row : TableRow) → list_all (held_by (is_held shapes)) (refs (rules_over shapes) row) ≡ true
held_refs shapes row =
    ap (λ (l : List Column). list_all (held_by (is_held shapes)) (refs_in l row.values)) (columns_there shapes row.table)
    ∙ all_weaker (held_by (λ t. some_holding t (columns_at shapes row.table))) (held_by (is_held shapes))
    (held_more (λ t. some_holding t (columns_at shapes row.table)) (is_held shapes) (λ t h. held_at shapes row.table t h)) (refs_in (columns_at shapes row.table) row.values) (held_row (columns_at shapes row.table) row.values)

-- ---- a row that is named by RESTRICT

module _ (shapes : List Shape) (rows : List TableRow) (name : RowName) where
  -- a row with the name, of a table that a column refers to by RESTRICT
  abbrev is_held_row : TableRow → Bool
  is_held_row x = same_row x.name name && is_held shapes x.table

  named_by : (rs : List RowRef) → list_all (stands_among rows) rs ≡ true → list_all (held_by (is_held shapes)) rs ≡ true → list_any (λ r. is_restrict r.action && same_row r.name name) rs ≡ true → list_any is_held_row rows ≡ true
  named_by [] s h a = absurd (cc)
  named_by (r ∷ rs) s h a =
      let standing = and_parts (stands_among rows r) _ s in
      let held = and_parts (held_by (is_held shapes) r) _ h in
      elim (or_cases (is_restrict r.action && same_row r.name name) _ a) [
        | inl here ↦
            let parts = and_parts (is_restrict r.action) _ here in
            let target : is_held shapes r.target ≡ true = ap (λ b. not b || is_held shapes r.target) (sym parts.0) ∙ held.0 in
            any_weaker (λ x. same_row x.name r.name && (x.table == r.target)) is_held_row
            (λ x k. let both = and_parts (same_row x.name r.name) _ k in
            and_from _ _ (subst (λ (n : RowName). same_row x.name n ≡ true) (row_from_same r.name name parts.1) both.0) (ap (is_held shapes) (eqb-true x.table r.target both.1) ∙ target))
            rows standing.0
        | inr there ↦ named_by rs standing.1 held.1 there
      ]

  named_among : (some : List TableRow) → list_all (λ row. list_all (stands_among rows) (refs (rules_over shapes) row)) some ≡ true
      → list_any (λ row. list_any (λ r. is_restrict r.action && same_row r.name name) (refs (rules_over shapes) row)) some ≡ true → list_any is_held_row rows ≡ true
  named_among [] s a = absurd (cc)
  named_among (row ∷ some) s a =
      let parts = and_parts (list_all (stands_among rows) (refs (rules_over shapes) row)) _ s in
      elim (or_cases (list_any (λ r. is_restrict r.action && same_row r.name name) (refs (rules_over shapes) row)) _ a) [
        | inl here ↦ named_by (refs (rules_over shapes) row) parts.0 (held_refs shapes row) here
        | inr there ↦ named_among some parts.1 there
      ]

module _ (state : State) (past : ℕ → Bool) (name : RowName) (referred : are_referred (rules_of_state state) (done_in state).inserted ≡ true) where
  child_held : child_then state past name ≡ true → list_any (is_held_row state.shapes (done_in state).inserted name) (done_in state).inserted ≡ true
  child_held h =
      let c : TableRow → Bool = λ row. list_any (λ (r : RowRef). is_restrict r.action && same_row r.name name) (refs (rules_of_state state) row) in
      named_among state.shapes (done_in state).inserted name (done_in state).inserted referred
      (any_reversed c (map row_of state.inserted) ∙ any_mapped row_of c state.inserted
      ∙ any_weaker (holds_on state past name) (λ (it : Inserted). c (row_of it))
      (λ it k. (and_parts (is_visible (rules_of_state state) (done_then state past) it.name) _ (and_parts (past it.position) _ k).1).1) state.inserted (sym (child_is state past name) ∙ h))

  -- nothing names a row that is not there
  pub unnamed_free : place_of state.inserted name ≡ None → child_then state past name ≡ false
  unnamed_free none =
      false_from_ne_true _ (λ h. both_ways _ (unnamed_from_none state.inserted name none)
      (any_weaker (is_held_row state.shapes (done_in state).inserted name) (λ row. same_row row.name name) (λ row k. (and_parts _ _ k).0) (done_in state).inserted (child_held h)))

  -- nor one of a table that no column refers to by RESTRICT
  pub unheld_free : are_layered (rules_of_state state) (done_in state).inserted ≡ true → (place : ℕ) (it : Inserted) → place_of state.inserted name ≡ Some place → slice_get state.inserted place ≡ Some it
      → is_held state.shapes it.entry.table ≡ false → child_then state past name ≡ false
  unheld_free layered place it found at free =
      let row = row_found state.inserted name place found in
      let same : Some row.it ≡ Some it = sym row.at ∙ at in
      let one : row.it ≡ it = cc in
      let own : it.name ≡ name = ap (λ (r : Inserted). r.name) (sym one) ∙ row.name_is in
      let stands = row_has (Stands (done_in state).inserted) state.inserted place it (each_stands (rules_of_state state) (done_in state).inserted layered) at in
      false_from_ne_true _ (λ h. both_ways _ free (stands.only (λ (x : TableRow). is_held state.shapes x.table)
      (subst (λ (n : RowName). list_any (λ (x : TableRow). same_row x.name n && is_held state.shapes x.table) (done_in state).inserted ≡ true) (sym own) (child_held h))))
