use Rattle.std.proofs.Common.{length}
use Rattle.validity.proofs.referring.+references_stand.Given as goal

abbrev pub decreases-references_stand : goal.decreases-references_stand
decreases-references_stand g l = length l.columns.now
