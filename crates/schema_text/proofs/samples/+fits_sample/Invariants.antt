use Rattle.std.proofs.Common.{length}
use Rattle.schema_text.proofs.samples.+fits_sample.Given as goal

abbrev pub decreases-fits_sample : goal.decreases-fits_sample
decreases-fits_sample l = length l.columns.now
