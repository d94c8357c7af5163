use Rattle.tuple_state.specs.declared.shape.Shape.{Shape}
use Rattle.std.proofs.Common.{◌≤◌, ◌&&◌, List, [], length, ap, ◌∙◌, subst}
use Rattle.std.specs.Prelude.{slice_get}
use Rattle.std.specs.List.{list_any}
use Rattle.schema.specs.Columns.{is_restrict}
use Rattle.table_model.specs.Visible.{refs, same_row}
use Rattle.tuple_state.specs.Parents.{any_restricts}
use Rattle.tuple_state.specs.State.{State, row_of, rules_of_state}
use Rattle.tuple_state.proofs.Dropping.{same_found, columns_found}
use Rattle.tuple_state.proofs.Marking.{columns_past}
use Rattle.tuple_state.proofs.Restricting.{no_restricts, restricts_row}
use Rattle.tuple_state.proofs.tables.Tables.restricts.Goals as goal

pub returns-in-Some : goal.returns-in-Some
returns-in-Some c it at =
    let rows = c.self.inside.rows.items in
    let inside = ap (λ (s : State). slice_get s.inserted c.args.place) c.self.view_is ∙ at in
    let row = same_found rows c.args.place c.index.result.now it c.index.ensures inside in
    let list = columns_found c.self.inside.shapes.items c.deref.result.now c.from.result c.index.result.now.entry.table c.in-Some.shape.now c.deref.ensures.value c.from.ensures c.in-Some.ensures.lookup.3.0 c.in-Some.ensures.lookup.1 in
    c.restricts.ensures ∙ (λ i. any_restricts c.args.name.now (c.as_slice.ensures i) (c.as_slice-in-Some.ensures i))
    ∙ restricts_row c.self.inside.shapes.items c.args.name.now c.index.result.now it c.in-Some.shape.now.columns row list
    ∙ ap (λ (s : State). list_any (λ r. is_restrict r.action && same_row r.name c.args.name.now) (refs (rules_of_state s) (row_of it))) c.self.view_is

pub returns-in-None : goal.returns-in-None
returns-in-None c it at =
    let rows = c.self.inside.rows.items in
    let inside = ap (λ (s : State). slice_get s.inserted c.args.place) c.self.view_is ∙ at in
    let row = same_found rows c.args.place c.index.result.now it c.index.ensures inside in
    let past = subst (λ (l : List Shape). length l ≤ c.from.result) c.deref.ensures.value c.in-None.ensures.lookup.3 in
    let none = columns_past c.self.inside.shapes.items c.index.result.now.entry.table (subst (λ n. length c.self.inside.shapes.items ≤ n) c.from.ensures past) in
    no_restricts c.args.name.now c.index.result.now.entry.values
    ∙ restricts_row c.self.inside.shapes.items c.args.name.now c.index.result.now it [] row none
    ∙ ap (λ (s : State). list_any (λ r. is_restrict r.action && same_row r.name c.args.name.now) (refs (rules_of_state s) (row_of it))) c.self.view_is
