use Rattle.std.proofs.Common.{◌+◌, ◌*◌}
use Rattle.lms_tree.proofs.leaves.+parts.Given as goal

abbrev pub decreases-mine : goal.decreases-mine
decreases-mine g l = 2 * l.others + 1

abbrev pub decreases-leaves_on : goal.decreases-leaves_on
decreases-leaves_on g l = 2 * l.threads
