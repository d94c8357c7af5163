-- The rows that are lent, by place and by name.
use Rattle.std.proofs.Common.{◌≡◌, ◌∙◌, ℕ, zero, suc, Bool, true, false, cond, ◌&&◌, ◌||◌, List, [], ◌∷◌, map, filter, refl, sym, ap, subst, None, Some, Option}
use Rattle.std.specs.Prelude.{find, option_map, slice_get}
use Rattle.std.specs.List.{list_any, AllByRecursion}
use Rattle.std.proofs.lemmas.Bool.{and_from, both_ways, or_left, or_parts, or_right}
use Rattle.update_model.specs.declared.row_name.RowName.{RowName}
use Rattle.update_model.specs.declared.value.Value.{Value}
use Rattle.schema.specs.declared.column.Column.{Column}
use Rattle.table_model.specs.declared.shown_row.ShownRow.{ShownRow}
use Rattle.table_model.specs.Tables.{listed}
use Rattle.table_model.specs.Verdicts.{in_table}
use Rattle.table_model.specs.Visible.{TableRow, is_visible, same_row, shown}
use Rattle.table_model.proofs.Standing.{each-map, same_row-refl}
use Rattle.tuple_state.specs.declared.inserted.Inserted.{Inserted}
use Rattle.tuple_state.specs.Arrived.{arrived, is_listed, line_of}
use Rattle.tuple_state.specs.Kept.{are_layered, place_of}
use Rattle.tuple_state.specs.Showing.{shown_by, shown_values_by}
use Rattle.tuple_state.specs.State.{State, done_in, row_of, rules_of_state}
use Rattle.tuple_state.proofs.Answering.{once_each, same_turned}
use Rattle.tuple_state.proofs.Finding.{find_one}
use Rattle.tuple_state.proofs.Lookups.{named_reversed, slice_get_mapped, unnamed_from_none}
use Rattle.tuple_state.proofs.Regrowth.{each_back, row_has}

-- ---- values, each in its column

module _ (visible : RowName → Bool) where
  pub shown_there : (columns : List Column) (values : List Value) (n : ℕ) (column : Column) (v : Value) → slice_get columns n ≡ Some column → slice_get values n ≡ Some v
      → slice_get (shown_values_by visible columns values) n ≡ Some (shown_by visible column.kind v)
  shown_there [] values n column v c e = absurd cc
  shown_there (x ∷ columns) [] n column v c e = absurd cc
  shown_there (x ∷ columns) (y ∷ values) zero column v c e =
      let same : x ≡ column = cc in
      let is : y ≡ v = cc in
      (λ i. Some (shown_by visible (same i).kind (is i)))
  shown_there (x ∷ columns) (y ∷ values) (suc n) column v c e = shown_there columns values n column v c e

  pub shown_past : (columns : List Column) (values : List Value) (n : ℕ) (v : Value) → slice_get columns n ≡ None → slice_get values n ≡ Some v
      → slice_get (shown_values_by visible columns values) n ≡ Some v
  shown_past [] values n v c e = e
  shown_past (x ∷ columns) [] n v c e = absurd cc
  shown_past (x ∷ columns) (y ∷ values) zero v c e = absurd cc
  shown_past (x ∷ columns) (y ∷ values) (suc n) v c e = shown_past columns values n v c e

  pub shown_nowhere : (columns : List Column) (values : List Value) (n : ℕ) → slice_get values n ≡ None → slice_get (shown_values_by visible columns values) n ≡ None
  shown_nowhere [] values n e = e
  shown_nowhere (x ∷ columns) [] n e = refl
  shown_nowhere (x ∷ columns) (y ∷ values) zero e = absurd cc
  shown_nowhere (x ∷ columns) (y ∷ values) (suc n) e = shown_nowhere columns values n e

-- ---- one of a list that is filtered

find_mapped : {X Y : Type 0} (t : Y → Bool) (g : X → Y) (xs : List X) → find t (map g xs) ≡ option_map g (find (λ x. t (g x)) xs)
find_mapped t g [] = refl
find_mapped {X} {Y} t g (x ∷ xs) =
    let rest = find_mapped t g xs in
    elim (t (g x)) as (λ b. cond b (Some (g x)) (find t (map g xs)) ≡ option_map g (cond b (Some x) (find (λ y. t (g y)) xs))) [ true ↦ refl | false ↦ rest ]

mapped_filter : {X Y : Type 0} (f : X → Y) (p : Y → Bool) (xs : List X) → filter p (map f xs) ≡ map f (filter (λ x. p (f x)) xs)
mapped_filter f p [] = refl
mapped_filter f p (x ∷ xs) =
    let rest = mapped_filter f p xs in
    elim (p (f x)) as (λ b. cond b (f x ∷ filter p (map f xs)) (filter p (map f xs)) ≡ map f (cond b (x ∷ filter (λ y. p (f y)) xs) (filter (λ y. p (f y)) xs))) [
      | true ↦ ap (λ l. f x ∷ l) rest
      | false ↦ rest
    ]

find_out : (t v : TableRow → Bool) (r : TableRow) (xs : List TableRow) → AllByRecursion (λ x. t x ≡ true → x ≡ r) xs → v r ≡ false → find t (filter v xs) ≡ None
find_out t v r [] a h = refl
find_out t v r (x ∷ xs) a h =
    let step : (b c : Bool) → v x ≡ b → t x ≡ c → find t (cond b (x ∷ filter v xs) (filter v xs)) ≡ None =
    elim [
      | true ↦ elim [
        | true ↦ λ e g. absurd (both_ways _ h (ap v (sym (a.0 g)) ∙ e))
        | false ↦ λ e g. ap (λ b. cond b (Some x) (find t (filter v xs))) g ∙ find_out t v r xs a.1 h
      ]
      | false ↦ λ c e g. find_out t v r xs a.1 h
    ] in
    step (v x) (t x) refl refl

find_nothing : (t v : TableRow → Bool) (xs : List TableRow) → list_any t xs ≡ false → find t (filter v xs) ≡ None
find_nothing t v [] h = refl
find_nothing t v (x ∷ xs) h =
    let parts = or_parts (t x) (list_any t xs) h in
    elim (v x) as (λ b. find t (cond b (x ∷ filter v xs) (filter v xs)) ≡ None) [
      | true ↦ ap (λ b. cond b (Some x) (find t (filter v xs))) parts.0 ∙ find_nothing t v xs parts.1
      | false ↦ find_nothing t v xs parts.1
    ]

any_at : (p : TableRow → Bool) (xs : List TableRow) (k : ℕ) (x : TableRow) → slice_get xs k ≡ Some x → p x ≡ true → list_any p xs ≡ true
any_at p [] k x at h = absurd cc
any_at p (y ∷ xs) zero x at h = let same : y ≡ x = cc in or_left _ _ (ap p same ∙ h)
any_at p (y ∷ xs) (suc k) x at h = or_right (p y) _ (any_at p xs k x at h)

any_mapped : (p : TableRow → Bool) (xs : List Inserted) → list_any p (map row_of xs) ≡ list_any (λ it. p (row_of it)) xs
any_mapped p [] = refl
any_mapped p (x ∷ xs) = ap (λ b. p (row_of x) || b) (any_mapped p xs)

-- ---- the row with a name

module _ (state : State) (table : ℕ) (name : RowName) where
  -- whether it is the row, whether it is listed, and as what
  abbrev t : TableRow → Bool
  t row = same_row row.name name

  abbrev v : TableRow → Bool
  v row = in_table table row && is_visible (rules_of_state state) (done_in state) row.name

  abbrev g : TableRow → ShownRow
  g row = listed (shown (rules_of_state state) (done_in state) row)

  abbrev rows : List TableRow
  rows = map row_of state.inserted

  in_arrived : find (λ row. same_row row.name name) (arrived state table) ≡ option_map g (find t (filter v rows))
  in_arrived =
      find_mapped (λ row. same_row row.name name) (line_of state) (filter (is_listed state table) state.inserted)
      ∙ outer (filter (is_listed state table) state.inserted)
      ∙ ap (λ (xs : List TableRow). option_map g (find t xs)) (sym (mapped_filter row_of v state.inserted))
    where
      outer : (xs : List Inserted) → option_map (line_of state) (find (λ it. same_row it.name name) xs) ≡ option_map g (find t (map row_of xs))
      outer xs = sym (ap (option_map g) (find_mapped t row_of xs) ∙ twice (find (λ it. same_row it.name name) xs))
        where
          twice : (found : Option Inserted) → option_map g (option_map row_of found) ≡ option_map (line_of state) found
          twice None = refl
          twice (Some it) = refl

  pub absent : place_of state.inserted name ≡ None → None ≡ find (λ row. same_row row.name name) (arrived state table)
  absent none =
      let nobody : list_any t rows ≡ false = any_mapped t state.inserted ∙ sym (named_reversed state.inserted name) ∙ unnamed_from_none state.inserted name none in
      sym (in_arrived ∙ ap (option_map g) (find_nothing t v rows nobody))

  module _ (layered : are_layered (rules_of_state state) (done_in state).inserted ≡ true) (place : ℕ) (it : Inserted) (at : slice_get state.inserted place ≡ Some it) (named : it.name ≡ name) where
    only : AllByRecursion (λ b. t b ≡ true → b ≡ row_of it) rows
    only =
        let once : AllByRecursion (λ b. same_row it.name b.name ≡ true → row_of it ≡ b) (done_in state).inserted =
        row_has (λ a. AllByRecursion (λ b. same_row a.name b.name ≡ true → a ≡ b) (done_in state).inserted) state.inserted place it (once_each (rules_of_state state) (done_in state).inserted layered) at in
        each-map (λ b. same_row it.name b.name ≡ true → row_of it ≡ b) (λ b. t b ≡ true → b ≡ row_of it)
        (λ b h same. sym (h (subst (λ (n : RowName). same_row n b.name ≡ true) (sym named) (same_turned b.name name same)))) rows
        (each_back (λ b. same_row it.name b.name ≡ true → row_of it ≡ b) rows once)

    pub there : is_listed state table it ≡ true → Some (line_of state it) ≡ find (λ row. same_row row.name name) (arrived state table)
    there listed =
        let own : t (row_of it) ≡ true = subst (λ (n : RowName). same_row it.name n ≡ true) named (same_row-refl it.name) in
        let any = any_at (λ x. t x && v x) rows place (row_of it) (slice_get_mapped row_of state.inserted place it at) (and_from _ _ own listed) in
        sym (in_arrived ∙ ap (option_map g) (find_one t v (row_of it) rows only any))

    pub hidden : is_listed state table it ≡ false → None ≡ find (λ row. same_row row.name name) (arrived state table)
    hidden not_listed = sym (in_arrived ∙ ap (option_map g) (find_out t v (row_of it) rows only not_listed))
