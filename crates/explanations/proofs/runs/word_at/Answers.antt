use Rattle.std.proofs.Common.{rules}
use Rattle.explanations.specs.Run.{word_placed}
use Rattle.explanations.proofs.runs.word_at.Goals as goal

pub loop-rest-init : goal.loop-rest-init
unfolding word_placed
loop-rest-init c = search rules
