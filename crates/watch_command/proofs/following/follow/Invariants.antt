use Rattle.watch_command.specs.Ending.{streams}
use Rattle.watch_command.proofs.Running.{IsAsFar}
use Rattle.watch_command.proofs.following.follow.Given as goal

-- so many records were taken and told
abbrev pub invariant-loop-count : goal.invariant-loop-count
invariant-loop-count g l =
    IsAsFar l.fn.replica l.replica l.fn.view l.view l.count (streams g.S.Source.left g.S.Counted.faults g.K.Sink.held g.K.Counted.faults l.fn.input l.fn.out)
    (streams g.S.Source.left g.S.Counted.faults g.K.Sink.held g.K.Counted.faults l.input l.out)
