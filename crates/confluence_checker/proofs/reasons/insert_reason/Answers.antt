use Rattle.std.proofs.Common.{sym, ◌∙◌}
use Rattle.schema.proofs.RowKinds.{fits_kinds}
use Rattle.schema.proofs.Soundness.{checks_sound}
use Rattle.confluence_checker.proofs.reasons.insert_reason.Goals as goal

pub checks_hold-requires-clause-sound : goal.checks_hold-requires-clause-sound
checks_hold-requires-clause-sound g c κs within =
    rw (c.as_slice-columns.ensures, c.as_slice.ensures) (checks_sound c.args.schema.now.tables c.tables.ensures.kept.tables c.row.inside.table c.table-table.result.now c.table-table.ensures)

pub checks_hold-requires-clause-kinds : goal.checks_hold-requires-clause-kinds
checks_hold-requires-clause-kinds g c κs within = fits_kinds c.as_slice-columns.result.now c.as_slice-values.result.now (sym c.all_fit.ensures ∙ c.if-not-all_fit.false)
