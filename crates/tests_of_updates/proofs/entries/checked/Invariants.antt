use Rattle.std.proofs.Common.{All}
use Rattle.update_check.specs.Signed.{IsChecked}
use Rattle.tests_of_updates.proofs.entries.checked.Given as goal

abbrev pub invariant-updates : goal.invariant-updates
invariant-updates l = All (IsChecked l.rule) l.batch.items
