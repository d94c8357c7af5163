-- The rows that name a row by RESTRICT.
use Rattle.tuple_state.specs.declared.shape.Shape.{Shape}
use Rattle.std.proofs.Common.{◌≡◌, ℕ, zero, suc, ◌+◌, ◌<◌, ◌≤◌, Bool, true, false, cond, not, ◌&&◌, ◌||◌, List, [], ◌∷◌, length, get_or, take, drop, map, refl, sym, ap, ◌∙◌, Option, None, Some, inl, inr, arith}
use Rattle.std.specs.Prelude.{slice_get, filter, min, Result, Ok, Err, IfOk}
use Rattle.std.specs.List.{list_any}
use Rattle.std.proofs.lemmas.Bool.{both_ways, or_right}
use Rattle.std.proofs.lemmas.List.{take_more, take_all}
use Rattle.std.proofs.lemmas.List.Folds.{list_any-append}
use Rattle.update_model.specs.declared.row_name.RowName.{RowName}
use Rattle.update_model.specs.declared.value.Value.{Value}
use Rattle.update_model.specs.declared.value.Value.TheVariants as value
use Rattle.schema.specs.declared.action.Action.{Action}
use Rattle.schema.specs.declared.column.Column.{Column}
use Rattle.schema.specs.declared.column.ColumnKind.{ColumnKind}
use Rattle.schema.specs.Columns.{is_restrict, target_of}
use Rattle.table_model.specs.Visible.{RowRef, TableRow, is_deleted, is_visible, ref_in, ref_to, refs, refs_in, same_row}
use Rattle.table_model.proofs.Settled.{are_resting}
use Rattle.tuple_state.specs.declared.inserted.Inserted.{Inserted}
use Rattle.tuple_state.specs.Kept.{are_layered}
use Rattle.tuple_state.specs.Parents.{any_restricts, columns_at, is_row, name_by_restrict, restricts_in}
use Rattle.tuple_state.specs.Past.{child_then, done_then}
use Rattle.tuple_state.specs.State.{State, done_in, row_of, rules_of_state, rules_over}
use Rattle.table_model.proofs.Members.{any_mapped, any_reversed}
use Rattle.tuple_state.proofs.Lookups.{get_or_from}
use Rattle.tuple_state.proofs.Marking.{length_drop}
use Rattle.tuple_state.proofs.Marks.{columns_there}
use Rattle.tuple_state.proofs.Reaching.{hidden_row}
use Rattle.tuple_state.proofs.Stepping.{drop_next}

restricts_next : (name : RowName) (columns : List Column) (values : List Value) (n : ℕ) (column : Column) (v : Value) → n < length columns → n < length values
    → column ≡ get_or columns n column → v ≡ get_or values n v
    → any_restricts name (drop n columns) (drop n values) ≡ (restricts_in name column.kind v || any_restricts name (drop (n + 1) columns) (drop (n + 1) values))
unfolding any_restricts
restricts_next name columns values n column v a b c d = λ i. any_restricts name (drop_next columns n column a c i) (drop_next values n v b d i)

pub restricts_false : (name : RowName) (columns : List Column) (values : List Value) (n : ℕ) (column : Column) (v : Value) (total : Bool) → n < min (length columns) (length values)
    → column ≡ get_or columns n column → v ≡ get_or values n v → any_restricts name (drop n columns) (drop n values) ≡ total → restricts_in name column.kind v ≡ false
    → any_restricts name (drop (n + 1) columns) (drop (n + 1) values) ≡ total
restricts_false name columns values n column v total below c d inv fails =
    ap (λ b. b || any_restricts name (drop (n + 1) columns) (drop (n + 1) values)) (sym fails)
    ∙ sym (restricts_next name columns values n column v (omega (arith, below)) (omega (arith, below)) c d) ∙ inv

pub restricts_true : (name : RowName) (columns : List Column) (values : List Value) (n : ℕ) (column : Column) (v : Value) (total : Bool) → n < min (length columns) (length values)
    → column ≡ get_or columns n column → v ≡ get_or values n v → any_restricts name (drop n columns) (drop n values) ≡ total → restricts_in name column.kind v ≡ true → true ≡ total
restricts_true name columns values n column v total below c d inv holds =
    ap (λ b. b || any_restricts name (drop (n + 1) columns) (drop (n + 1) values)) (sym holds)
    ∙ sym (restricts_next name columns values n column v (omega (arith, below)) (omega (arith, below)) c d) ∙ inv

short : (name : RowName) (columns : List Column) (values : List Value) → min (length columns) (length values) ≡ 0 → false ≡ any_restricts name columns values
unfolding any_restricts
short name [] values h = refl
short name (column ∷ columns) [] h = refl
short name (column ∷ columns) (v ∷ values) h = absurd (omega (arith, h))

pub restricts_end : (name : RowName) (columns : List Column) (values : List Value) (n : ℕ) (total : Bool) → min (length columns) (length values) ≤ n
    → any_restricts name (drop n columns) (drop n values) ≡ total → false ≡ total
restricts_end name columns values n total past inv =
    short name (drop n columns) (drop n values) (elim (length_drop n columns) [
      | inr e ↦ let len = ap length e in omega (arith, len)
      | inl e ↦ elim (length_drop n values) [ inr f ↦ let len = ap length f in omega (arith, len) | inl f ↦ omega (arith, e, f, past) ]
    ]) ∙ inv

one_restricts : (name : RowName) (kind : ColumnKind) (v : Value) → list_any (λ (r : RowRef). is_restrict r.action && same_row r.name name) (ref_in kind v) ≡ restricts_in name kind v
one_restricts name kind (value.Row named) =
    let or_false : (b : Bool) → (b || false) ≡ b = elim [ true ↦ refl | false ↦ refl ] in
    let inner : (b : Bool) → ((b && same_row named name) || false) ≡ is_row name (cond b (Some named) None) = elim [ true ↦ or_false (same_row named name) | false ↦ refl ] in
    let step : (o : Option (ℕ × Action)) → list_any (λ (r : RowRef). is_restrict r.action && same_row r.name name) (ref_to named o) ≡ is_row name (name_by_restrict named o) =
    elim [ None ↦ refl | Some t ↦ inner (is_restrict t.1) ] in
    step (target_of kind)
one_restricts name kind value.Null = refl
one_restricts name kind (value.Int n) = refl
one_restricts name kind (value.Text bytes) = refl
one_restricts name kind (value.Flag flag) = refl
one_restricts name kind (value.Own index) = refl

restricts_are : (name : RowName) (columns : List Column) (values : List Value) → any_restricts name columns values ≡ list_any (λ (r : RowRef). is_restrict r.action && same_row r.name name) (refs_in columns values)
unfolding any_restricts
restricts_are name [] values = refl
restricts_are name (column ∷ columns) [] = refl
restricts_are name (column ∷ columns) (v ∷ values) =
    (λ i. sym (one_restricts name column.kind v) i || restricts_are name columns values i)
    ∙ sym (list_any-append (λ (r : RowRef). is_restrict r.action && same_row r.name name) (ref_in column.kind v) (refs_in columns values))

pub restricts_row : (shapes : List Shape) (name : RowName) (row it : Inserted) (list : List Column) → row ≡ it → columns_at shapes row.entry.table ≡ list
    → any_restricts name list row.entry.values ≡ list_any (λ (r : RowRef). is_restrict r.action && same_row r.name name) (refs (rules_over shapes) (row_of it))
restricts_row shapes name row it list same is =
    restricts_are name list row.entry.values
    ∙ ap (λ (l : List Column). list_any (λ (r : RowRef). is_restrict r.action && same_row r.name name) (refs_in l row.entry.values)) (sym (columns_there shapes row.entry.table ∙ is))
    ∙ ap (λ (x : Inserted). list_any (λ (r : RowRef). is_restrict r.action && same_row r.name name) (refs (rules_over shapes) (row_of x))) same

pub no_restricts : (name : RowName) (values : List Value) → false ≡ any_restricts name [] values
unfolding any_restricts
no_restricts name values = refl

any_of_kept : {X : Type 0} (t k : X → Bool) (xs : List X) → list_any t (filter k xs) ≡ list_any (λ x. k x && t x) xs
any_of_kept t k [] = refl
any_of_kept t k (x ∷ xs) =
    let rest = any_of_kept t k xs in
    elim (k x) as (λ b. list_any t (cond b (x ∷ filter k xs) (filter k xs)) ≡ ((b && t x) || list_any (λ y. k y && t y) xs)) [ true ↦ ap (λ b. t x || b) rest | false ↦ rest ]

module _ (state : State) (past : ℕ → Bool) (name : RowName) where
  -- whether a row names it, where it is visible
  abbrev pub holds_on : Inserted → Bool
  holds_on it = past it.position && (is_visible (rules_of_state state) (done_then state past) it.name && list_any (λ (r : RowRef). is_restrict r.action && same_row r.name name) (refs (rules_of_state state) (row_of it)))

  pub child_is : child_then state past name ≡ list_any holds_on state.inserted
  child_is =
      let c : TableRow → Bool = λ row. list_any (λ (r : RowRef). is_restrict r.action && same_row r.name name) (refs (rules_of_state state) row) in
      let v : TableRow → Bool = λ row. is_visible (rules_of_state state) (done_then state past) row.name in
      any_of_kept c v (done_then state past).inserted
      ∙ any_reversed (λ row. v row && c row) (map row_of (filter (λ (it : Inserted). past it.position) state.inserted))
      ∙ any_mapped row_of (λ row. v row && c row) (filter (λ (it : Inserted). past it.position) state.inserted)
      ∙ any_of_kept (λ (it : Inserted). v (row_of it) && c (row_of it)) (λ (it : Inserted). past it.position) state.inserted

  module _ (all : are_layered (rules_of_state state) (done_in state).inserted ≡ true) (some : are_layered (rules_of_state state) (done_then state past).inserted ≡ true)
      (rest : are_resting (rules_of_state state) (done_then state past).inserted ≡ true) where
    -- what is visible is of the past
    pub holds_at : (place : ℕ) (it : Inserted) (b : Bool) → slice_get state.inserted place ≡ Some it
        → b ≡ (is_visible (rules_of_state state) (done_then state past) it.name && list_any (λ (r : RowRef). is_restrict r.action && same_row r.name name) (refs (rules_of_state state) (row_of it))) → holds_on it ≡ b
    holds_at place it b at is =
        let g = done_then state past in
        let c = list_any (λ (r : RowRef). is_restrict r.action && same_row r.name name) (refs (rules_of_state state) (row_of it)) in
        let step : (p v : Bool) → past it.position ≡ p → is_visible (rules_of_state state) g it.name ≡ v → (p && (v && c)) ≡ (v && c) =
        elim [
          | true ↦ λ v e f. refl
          | false ↦ elim [
            | true ↦ λ e f. absurd (both_ways _ (hidden_row state.shapes state.inserted past g.deleted all some rest place it at (ap (λ x. x && not (is_deleted g it.name)) e)) f)
            | false ↦ λ e f. refl
          ]
        ] in
        step (past it.position) (is_visible (rules_of_state state) g it.name) refl refl ∙ sym is

-- ---- one row after another

pub none_yet : (t : Inserted → Bool) (xs : List Inserted) (i : ℕ) (x : Inserted) → slice_get xs i ≡ Some x → i < length xs → list_any t (take i xs) ≡ false → t x ≡ false → list_any t (take (i + 1) xs) ≡ false
none_yet t xs i x at below before h =
    ap (list_any t) (take_more xs i x below) ∙ list_any-append t (take i xs) (get_or xs i x ∷ []) ∙ (λ j. before j || ((ap t (get_or_from xs i x x at) ∙ h) j || false))

pub some_here : (t : Inserted → Bool) (xs : List Inserted) (i : ℕ) (x : Inserted) → slice_get xs i ≡ Some x → t x ≡ true → list_any t xs ≡ true
some_here t [] i x at h = absurd (cc)
some_here t (y ∷ xs) zero x at h = let same : y ≡ x = cc in ap (λ b. b || list_any t xs) (ap t same ∙ h)
some_here t (y ∷ xs) (suc i) x at h = or_right (t y) _ (some_here t xs i x at h)

pub none_at_end : (t : Inserted → Bool) (xs : List Inserted) (i : ℕ) → length xs ≤ i → list_any t (take i xs) ≡ false → list_any t xs ≡ false
none_at_end t xs i past before = ap (list_any t) (sym (take_all i xs past)) ∙ before

pub if_ok : {T E : Type 0} (P Q : T → Type 0) (r : Result T E) → ((x : T) → P x → Q x) → IfOk r P → IfOk r Q
if_ok P Q (Ok x) f p = f x p
if_ok P Q (Err e) f p = p
