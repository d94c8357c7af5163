use Rattle.std.proofs.Common.{sym, ◌∙◌}
use Rattle.schema_verdict.specs.Checks.{asked}
use Rattle.schema_verdict.proofs.checking.run_check.Goals as goal

pub returns-then-is_check : goal.returns-then-is_check
returns-then-is_check g c = asked (sym c.is_check.ensures ∙ c.if-is_check.true) c.check.ensures
