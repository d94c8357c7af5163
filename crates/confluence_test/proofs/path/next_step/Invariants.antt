use Rattle.std.proofs.Common.{◌≡◌, drop}
use Rattle.confluence_test.specs.Plans.{next_step_by}
use Rattle.confluence_test.proofs.path.next_step.Given as goal

abbrev pub invariant-loop-number : goal.invariant-loop-number
invariant-loop-number l = next_step_by l.permanence l.table l.number (drop l.number l.columns) ≡ next_step_by l.permanence l.table 0 l.columns
