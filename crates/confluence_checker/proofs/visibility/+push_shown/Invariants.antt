use Rattle.std.proofs.Common.{length}
use Rattle.confluence_checker.proofs.visibility.+push_shown.Given as goal

abbrev pub decreases-push_shown : goal.decreases-push_shown
decreases-push_shown l = length l.columns.now
