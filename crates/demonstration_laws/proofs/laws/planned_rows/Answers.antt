use Rattle.row_check.specs.Checksum.{is_luhn}
use Rattle.demonstration_laws.proofs.Rows.{lists_planned, tasks_planned}
use Rattle.demonstration_laws.proofs.laws.planned_rows.Goals as goal

pub returns-clause-lists : goal.returns-clause-lists
returns-clause-lists c nodes chains rows planned closed valid are = lists_planned is_luhn chains nodes rows closed planned valid are

pub returns-clause-tasks : goal.returns-clause-tasks
returns-clause-tasks c nodes chains rows planned closed valid are = tasks_planned is_luhn chains nodes rows closed planned valid are
