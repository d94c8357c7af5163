use Rattle.table_model.proofs.Unlimited.{unlimited_holds}
use Rattle.table_model.proofs.laws.unlimited_tables_hold.Goals as goal

pub returns : goal.returns
returns c rules rows none = unlimited_holds rows 0 rules.tables none
