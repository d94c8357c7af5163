use Rattle.std.proofs.Common.{◌≤◌}
use Rattle.update_stream.proofs.HasRead.{HasRead}
use Rattle.update_stream.proofs.stream.read_stream.Given as goal

abbrev pub invariant-loop-number : goal.invariant-loop-number
invariant-loop-number g l = record {
  later : g.S.Counted.faults l.fn.input ≤ g.S.Counted.faults l.input;
  read : HasRead l.rule l.set (g.S.Source.left l.fn.input) (g.S.Source.left l.input) l.graph l.number;
}
