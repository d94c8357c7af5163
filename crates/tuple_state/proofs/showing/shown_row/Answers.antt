use Rattle.tuple_state.proofs.Listing.{values_lined}
use Rattle.tuple_state.proofs.showing.shown_row.Goals as goal

pub returns : goal.returns
returns c = λ i. record {
  name = c.args.row.now.name;
  values = values_lined c.args.tables.now c.args.row.now c.columns-columns.result.now c.as_slice.result.now c.in_ok-shown_values.field-0 c.columns-columns.ensures c.as_slice.ensures c.in_ok-shown_values.ensures i;
}
