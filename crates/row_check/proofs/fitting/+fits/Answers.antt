use Rattle.std.proofs.Common.{◌∙◌, ap, nat_lt, length}
use Rattle.std.specs.List.{list_all}
use Rattle.row_check.proofs.Columns.{native_fits}
use Rattle.row_check.proofs.fitting.+fits.Goals as goal

pub returns-in-Native : goal.returns-in-Native
returns-in-Native t c =
    let row = c.args.row.now in
    let tested = c.has_columns.ensures ∙ ap (list_all (λ column. nat_lt column (length row))) c.as_slice.ensures in
    native_fits row c.args.expr.now c.in-Native.number c.in-Native.columns c.has_columns.result c.in-Native.is tested
