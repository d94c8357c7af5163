use Rattle.std.proofs.Common.{◌+◌, ◌*◌}
use Rattle.record_check.proofs.verifier.+parts.Given as goal

abbrev pub decreases-mine : goal.decreases-mine
decreases-mine g l = 2 * l.others + 1

abbrev pub decreases-each_on : goal.decreases-each_on
decreases-each_on g l = 2 * l.threads
