use Rattle.std.proofs.Common.{rules}
use Rattle.explanations.specs.Run.{cr_lf_note}
use Rattle.explanations.proofs.runs.push_cr_lf.Goals as goal

pub returns : goal.returns
unfolding cr_lf_note
returns c = search rules
