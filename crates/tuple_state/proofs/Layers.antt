-- Rows that name by CASCADE only rows before them: which of them are visible.
use Rattle.std.proofs.Common.{◌≡◌, ℕ, zero, suc, ◌==◌, Bool, true, false, not, ◌&&◌, ◌||◌, nat_lt, List, [], ◌∷◌, length, map, refl, sym, ap, ◌∙◌, subst, inl, inr, Option, None, Some, is_none}
use Rattle.std.specs.Prelude.{filter, is_some, slice_get, unwrap_or}
use Rattle.std.specs.List.{list_any, list_all, AllByRecursion}
use Rattle.std.proofs.lemmas.Bool.{and_parts, or_cases, or_parts, or_right, or_left, and_from, both_ways, not_from_false}
use Rattle.update_model.specs.declared.row_name.RowName.{RowName}
use Rattle.schema.specs.declared.column.Column.{Column}
use Rattle.schema.specs.declared.table_def.TableDef.{TableDef}
use Rattle.schema.specs.Columns.{is_restrict}
use Rattle.schema.specs.Numbers.{no_table}
use Rattle.table_model.specs.Visible.{Rules, TableRow, RowRef, Effects, same_row, table_of, kept_of, refs, refs_in, is_cascade, cascade_refs, is_candidate, goes_before, is_least_in, is_least, shows, visible_to, is_visible, is_deleted, visible_rows}
use Rattle.table_model.specs.Verdicts.{stands_among}
use Rattle.table_model.proofs.Order.{any_weaker}
use Rattle.table_model.proofs.Founded.{all_weaker, IsFounded, Founded}
use Rattle.table_model.proofs.EqualValues.{plain_least}
use Rattle.table_model.proofs.Settled.{IsOne, are_resting, shows_none, shows_one, visible_is}
use Rattle.table_model.proofs.Standing.{row_from_same, same_row-refl, each-map, all_filtered}
use Rattle.tuple_state.specs.declared.shape.Shape.{Shape}
use Rattle.tuple_state.specs.State.{keep_any, rules_over, shape_of, table_with}
use Rattle.tuple_state.specs.Kept.{are_grounded, are_layered, is_named}

false_from_not : (b : Bool) → not b ≡ true → b ≡ false
false_from_not true h = sym h
false_from_not false h = refl

-- the parts of the test of one row
pub record IsLayer (rules : Rules) (older : List TableRow) (row : TableRow) : Type 0 where
  pub new : is_named older row.name ≡ false
  pub refers : list_all (λ r. is_named older r.name) (cascade_refs rules row) ≡ true
  pub rest : are_layered rules older ≡ true

pub layer_parts : (rules : Rules) (older : List TableRow) (row : TableRow) → are_layered rules (row ∷ older) ≡ true → IsLayer rules older row
unfolding are_layered
layer_parts rules older row h =
    let a = and_parts (not (is_named older row.name) && list_all (λ r. is_named older r.name) (cascade_refs rules row)) _ h in
    let b = and_parts (not (is_named older row.name)) _ a.0 in
    record { new = false_from_not _ b.0; refers = b.1; rest = a.1 }

-- what passed the tests of inserts is layered
pub layered_founded : (rules : Rules) (rows : List TableRow) → Founded rules rows → are_layered rules rows ≡ true
unfolding are_layered
layered_founded rules [] f = refl
layered_founded rules (row ∷ older) f =
    let it : IsFounded rules older row = f.0 in
    and_from _ _
    (and_from _ _ (not_from_false _ it.new)
    (all_weaker (stands_among older) (λ r. is_named older r.name)
    (λ r h. any_weaker (λ x. same_row x.name r.name && (x.table == r.target)) (λ x. same_row x.name r.name) (λ x hx. (and_parts _ _ hx).0) older h)
    (cascade_refs rules row) (all_filtered (λ r. is_cascade r.action) (stands_among older) (refs rules row) it.referred)))
    (layered_founded rules older f.1)

-- a row of layered rows: it is there, and no other has its name
abbrev pub Stands : List TableRow → TableRow → Type 0
Stands rows row = IsOne rows row

pub each_stands : (rules : Rules) (rows : List TableRow) → are_layered rules rows ≡ true → AllByRecursion (Stands rows) rows
each_stands rules [] f = tt
each_stands rules (row ∷ older) f =
    let it = layer_parts rules older row f in
    let more : (p : TableRow → Bool) → list_any p older ≡ true → list_any p (row ∷ older) ≡ true = λ p h. or_right (p row) _ h in (
      record {
        here = λ p h. or_left _ _ h;
        only = λ p h. elim (or_cases (same_row row.name row.name && p row) _ h) [
          | inl own ↦ (and_parts _ _ own).1
          | inr other ↦ absurd (both_ways _ it.new (any_weaker (λ e. same_row e.name row.name && p e) (λ e. same_row e.name row.name) (λ e g. (and_parts _ _ g).0) older other))
        ];
      },
      each-map (Stands older) (Stands (row ∷ older)) (λ e s. record {
        here = λ p h. more p (s.here p h);
        only = λ p h. elim (or_cases (same_row row.name e.name && p row) _ h) [
          | inl own ↦ absurd (both_ways _ it.new (s.here (λ x. same_row x.name row.name)
              (let same : row.name ≡ e.name = row_from_same row.name e.name (and_parts (same_row row.name e.name) (p row) own).0 in
              subst (λ (n : RowName). same_row e.name n ≡ true) (sym same) (same_row-refl e.name))))
          | inr other ↦ s.only p other
        ];
      }) older (each_stands rules older it.rest),
    )

module _ (rules : Rules) (g : Effects) where
  -- a row that nobody inserted is not visible
  pub unnamed_hidden : (name : RowName) → is_named g.inserted name ≡ false → (depth : ℕ) → visible_to rules g depth name ≡ false
  unfolding visible_to
  unnamed_hidden name none zero = refl
  unnamed_hidden name none (suc depth) = shows_none rules g (visible_to rules g depth) name none

  -- whether a row that is there is visible
  pub row_visible : are_layered rules g.inserted ≡ true → are_resting rules g.inserted ≡ true → (row : TableRow) → Stands g.inserted row
      → is_visible rules g row.name ≡ (is_candidate rules g (is_visible rules g) row && is_least rules g (is_visible rules g) row)
  row_visible f r row s = visible_is rules g (each_stands rules g.inserted f) r row.name ∙ shows_one rules g (is_visible rules g) row s

  -- the same in a table that keeps no least row
  pub plain_visible : are_layered rules g.inserted ≡ true → are_resting rules g.inserted ≡ true → (row : TableRow) → Stands g.inserted row → is_none (kept_of rules row.table) ≡ true
      → is_visible rules g row.name ≡ (list_all (λ r. is_visible rules g r.name) (cascade_refs rules row) && not (is_deleted g row.name))
  plain_visible f r row s plain =
      row_visible f r row s ∙ ap (λ b. is_candidate rules g (is_visible rules g) row && b) (plain_least rules g (is_visible rules g) row plain) ∙ and_true _
    where
      and_true : (b : Bool) → (b && true) ≡ b
      and_true true = refl
      and_true false = refl

-- ---- rules with tables of the same shapes

pub record SameShapes (r q : Rules) : Type 0 where
  pub at : (number : ℕ) → (table_of r number).columns ≡ (table_of q number).columns
  pub kept : (number : ℕ) → kept_of r number ≡ kept_of q number

module _ {r q : Rules} (s : SameShapes r q) where
  pub same_refs : (row : TableRow) → refs r row ≡ refs q row
  same_refs row = ap (λ (columns : List Column). refs_in columns row.values) (s.at row.table)

  pub same_cascade : (row : TableRow) → cascade_refs r row ≡ cascade_refs q row
  same_cascade row = ap (λ (l : List RowRef). filter (λ x. is_cascade x.action) l) (same_refs row)

  pub same_layered : (rows : List TableRow) → are_layered r rows ≡ are_layered q rows
  unfolding are_layered
  same_layered [] = refl
  same_layered (row ∷ older) = λ i.
      not (is_named older row.name) && list_all (λ x. is_named older x.name) (same_cascade row i) && same_layered older i

  pub same_resting : (rows : List TableRow) → are_resting r rows ≡ are_resting q rows
  same_resting [] = refl
  same_resting (row ∷ older) = λ i.
      list_all (λ x. list_any (λ y. same_row y.name x.name && (nat_lt y.table row.table || ((y.table == row.table) && is_none (s.kept row.table i)))) older) (same_cascade row i) && same_resting older i

  module _ (g : Effects) (f h : RowName → Bool) (e : (name : RowName) → f name ≡ h name) where
    pub same_candidate : (row : TableRow) → is_candidate r g f row ≡ is_candidate q g h row
    same_candidate row = λ i. list_all (λ x. e x.name i) (same_cascade row i) && not (is_deleted g row.name)

    same_least_in : (row : TableRow) (o : Option ℕ) → is_least_in r g f row o ≡ is_least_in q g h row o
    same_least_in row None = refl
    same_least_in row (Some column) = λ i. not (list_any (λ other. goes_before column row other && same_candidate other i) g.inserted)

    pub same_least : (row : TableRow) → is_least r g f row ≡ is_least q g h row
    same_least row = same_least_in row (kept_of r row.table) ∙ ap (is_least_in q g h row) (s.kept row.table)

    same_shows : (name : RowName) → shows r g f name ≡ shows q g h name
    same_shows name = λ i. list_any (λ row. same_row row.name name && (same_candidate row i && same_least row i)) g.inserted

  pub same_to : (g : Effects) (depth : ℕ) (name : RowName) → visible_to r g depth name ≡ visible_to q g depth name
  unfolding visible_to
  same_to g zero name = refl
  same_to g (suc depth) name = same_shows g (visible_to r g depth) (visible_to q g depth) (same_to g depth) name

  pub same_visible : (g : Effects) (name : RowName) → is_visible r g name ≡ is_visible q g name
  same_visible g name = same_to g (length g.inserted) name

  pub same_rows : (g : Effects) → visible_rows r g ≡ visible_rows q g
  same_rows g = λ i. filter (λ row. same_visible g row.name i) g.inserted

  pub same_child : (rows : List TableRow) (name : RowName)
      → list_any (λ row. list_any (λ x. is_restrict x.action && same_row x.name name) (refs r row)) rows ≡ list_any (λ row. list_any (λ x. is_restrict x.action && same_row x.name name) (refs q row)) rows
  same_child rows name = λ i. list_any (λ row. list_any (λ x. is_restrict x.action && same_row x.name name) (same_refs row i)) rows

columns_shaped : (tables : List TableDef) (number : ℕ) → (unwrap_or (slice_get (map table_with (map shape_of tables)) number) no_table).columns ≡ (unwrap_or (slice_get tables number) no_table).columns
columns_shaped [] number = refl
columns_shaped (table ∷ tables) zero = refl
columns_shaped (table ∷ tables) (suc number) = columns_shaped tables number

kept_shaped : (tables : List TableDef) (number : ℕ) → (unwrap_or (slice_get (map table_with (map shape_of tables)) number) no_table).kept ≡ (unwrap_or (slice_get tables number) no_table).kept
kept_shaped [] number = refl
kept_shaped (table ∷ tables) zero = refl
kept_shaped (table ∷ tables) (suc number) = kept_shaped tables number

-- rules made of the shapes of others alone
pub same_shapes : (rules : Rules) (shapes : List Shape) → shapes ≡ map shape_of rules.tables → SameShapes (rules_over shapes) rules
same_shapes rules shapes is = record {
  at = λ number. ap (λ (l : List Shape). (unwrap_or (slice_get (map table_with l) number) no_table).columns) is ∙ columns_shaped rules.tables number;
  kept = λ number. ap (λ (l : List Shape). (unwrap_or (slice_get (map table_with l) number) no_table).kept) is ∙ kept_shaped rules.tables number;
}

pub grounded_is : (rules : Rules) (rows : List TableRow) → are_grounded rules rows ≡ are_resting rules rows
grounded_is rules [] = refl
grounded_is rules (row ∷ older) =
    ap (λ b. list_all (λ r. list_any (λ x. same_row x.name r.name && (nat_lt x.table row.table || ((x.table == row.table) && is_none (kept_of rules row.table)))) older) (cascade_refs rules row) && b)
    (grounded_is rules older)

-- where no table keeps the least row, none does
pub plain_shapes : (shapes : List Shape) → keep_any shapes ≡ false → (number : ℕ) → is_none (kept_of (rules_over shapes) number) ≡ true
plain_shapes [] h number = refl
plain_shapes (shape ∷ shapes) h zero =
    let step : (o : Option ℕ) → is_some o ≡ false → is_none o ≡ true = elim [ None ↦ λ e. refl | Some column ↦ λ e. absurd cc ] in
    step shape.kept (or_parts (is_some shape.kept) _ h).0
plain_shapes (shape ∷ shapes) h (suc number) = plain_shapes shapes (or_parts (is_some shape.kept) _ h).1 number
