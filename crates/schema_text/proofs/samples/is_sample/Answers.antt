use Rattle.std.proofs.Common.{sym, ◌∙◌}
use Rattle.schema.proofs.RowKinds.{sample_kinds}
use Rattle.schema_text.proofs.samples.is_sample.Goals as goal

pub checks_hold-requires-clause-kinds : goal.checks_hold-requires-clause-kinds
checks_hold-requires-clause-kinds g c κs within = sample_kinds c.as_slice-columns.result.now c.args.row.now (sym c.fits_sample.ensures ∙ c.if-fits_sample.true)
