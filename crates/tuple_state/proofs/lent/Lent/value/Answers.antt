use Rattle.std.proofs.Common.{◌∙◌, List, ap}
use Rattle.row_check.specs.Meaning.{value_at}
use Rattle.table_model.specs.declared.shown_row.ShownRow.{ShownRow}
use Rattle.update_model.specs.declared.value.Value.{Value}
use Rattle.table_model.specs.Visible.{is_visible}
use Rattle.tuple_state.specs.Showing.{shown_values_by}
use Rattle.tuple_state.specs.State.{done_in, rules_of_state}
use Rattle.tuple_state.proofs.Listing.{values_lined}
use Rattle.tuple_state.proofs.lent.Lent.value.Goals as goal
use Rattle.std.proofs.Common.{refl}

pub returns : goal.returns
returns c =
    let s = c.self.inside.tables.now in
    let columns = c.columns.result.now in
    let values = c.as_slice.result.now in
    let shown = shown_values_by (is_visible (rules_of_state s) (done_in s)) columns values in
    c.shown_in.ensures
    ∙ ap (λ (list : List Value). value_at list c.args.column) (values_lined s c.self.inside.row.now columns values shown c.columns.ensures c.as_slice.ensures refl)
    ∙ ap (λ (row : ShownRow). value_at row.values c.args.column) c.self.view_is
