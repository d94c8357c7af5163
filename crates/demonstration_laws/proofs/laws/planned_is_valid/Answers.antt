use Rattle.row_check.specs.Checksum.{is_luhn}
use Rattle.demonstration_laws.proofs.Planned.{planned_valid}
use Rattle.demonstration_laws.proofs.laws.planned_is_valid.Goals as goal

pub returns : goal.returns
returns c nodes chains author draft planned closed valid a n ops = planned_valid is_luhn nodes chains planned closed valid author a n draft ops
