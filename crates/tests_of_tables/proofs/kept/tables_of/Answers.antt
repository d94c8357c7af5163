use Rattle.row_check.specs.Checksum.{is_luhn}
use Rattle.table_model.specs.Visible.{rules_with}
use Rattle.tests_of_tables.proofs.kept.tables_of.Goals as goal

pub replay-requires-after_bounds : goal.replay-requires-after_bounds
replay-requires-after_bounds c κs = c.accepted_is_unlimited.ensures (rules_with is_luhn c.in-Ok.schema.tables) c.in-Ok.ensures.taken.accepted
