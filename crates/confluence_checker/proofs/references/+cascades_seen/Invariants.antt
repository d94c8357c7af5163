use Rattle.std.proofs.Common.{length}
use Rattle.confluence_checker.proofs.references.+cascades_seen.Given as goal

abbrev pub decreases-cascades_seen : goal.decreases-cascades_seen
decreases-cascades_seen l = length l.columns.now
