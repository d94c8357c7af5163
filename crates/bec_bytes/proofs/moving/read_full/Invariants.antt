use Rattle.std.proofs.Common.{◌-◌, ◌≤◌, length, take}
use Rattle.std.specs.Io.KnownBytes.{Consumes}
use Rattle.bec_bytes.proofs.moving.read_full.Given as goal

abbrev pub invariant-loop-filled : goal.invariant-loop-filled
invariant-loop-filled g l = record {
  within : l.filled ≤ length l.buf;
  read : Consumes (g.S.Source.left l.fn.source) (g.S.Source.left l.source) (take l.filled l.buf);
  later : g.S.Counted.faults l.fn.source ≤ g.S.Counted.faults l.source;
}

abbrev pub decreases-loop-filled : goal.decreases-loop-filled
decreases-loop-filled g l = length l.buf - l.filled
