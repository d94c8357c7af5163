use Rattle.std.proofs.Common.{length}
use Rattle.live_view.proofs.Those.{ArePassed}
use Rattle.live_view.proofs.change.behind.Given as goal

abbrev pub invariant-loop-rest : goal.invariant-loop-rest
invariant-loop-rest l = ArePassed l.lines l.line l.rest

abbrev pub decreases-loop-rest : goal.decreases-loop-rest
decreases-loop-rest l = length l.rest
