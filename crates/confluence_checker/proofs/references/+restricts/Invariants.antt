use Rattle.std.proofs.Common.{length}
use Rattle.confluence_checker.proofs.references.+restricts.Given as goal

abbrev pub decreases-restricts : goal.decreases-restricts
decreases-restricts l = length l.columns.now
