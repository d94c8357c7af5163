use Rattle.std.proofs.Common.{sym, subst}
use Rattle.row_check.specs.Checksum.{is_luhn}
use Rattle.byzantine_world.specs.Begun.{IsWorldCause}
use Rattle.byzantine_world.proofs.Started.{refusal_cause}
use Rattle.byzantine_world.proofs.beginning.check_text.Goals as goal

pub returns-clause-refused : goal.returns-clause-refused
returns-clause-refused c count =
    subst (IsWorldCause is_luhn c.args.text.now count) (sym c.fault_of.ensures) (refusal_cause c.args.text.now c.in-Err.refusal c.in-Err.ensures.refused count)
