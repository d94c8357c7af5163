use Rattle.std.proofs.Common.{length}
use Rattle.schema_text.proofs.samples.+plain_count.Given as goal

abbrev pub decreases-plain_count : goal.decreases-plain_count
decreases-plain_count l = length l.columns.now
