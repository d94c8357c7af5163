use Rattle.std.proofs.Common.{length}
use Rattle.confluence_checker.proofs.claims.+check_holds.Given as goal

abbrev pub decreases-check_holds : goal.decreases-check_holds
decreases-check_holds g l = length l.rows.now
