use Rattle.std.proofs.Common.{length}
use Rattle.confluence_checker.proofs.references.+references_stand.Given as goal

abbrev pub decreases-references_stand : goal.decreases-references_stand
decreases-references_stand l = length l.columns.now
