use Rattle.std.proofs.Common.{All}
use Rattle.update_check.specs.Signed.{IsChecked}
use Rattle.session_bench.proofs.holding.read_updates.Given as goal

abbrev pub invariant-records : goal.invariant-records
invariant-records g l = All (IsChecked l.rule) l.updates.items
