use Rattle.std.proofs.Common.{◌-◌, ◌≤◌, length, take}
use Rattle.std.specs.Io.KnownBytes.{Appends}
use Rattle.bec_bytes.proofs.moving.write_all_of.Given as goal

abbrev pub invariant-loop-written : goal.invariant-loop-written
invariant-loop-written g l = record {
  within : l.written ≤ length l.bytes;
  wrote : Appends (g.K.Sink.held l.fn.sink) (g.K.Sink.held l.sink) (take l.written l.bytes);
  later : g.K.Counted.faults l.fn.sink ≤ g.K.Counted.faults l.sink;
}

abbrev pub decreases-loop-written : goal.decreases-loop-written
decreases-loop-written g l = length l.bytes - l.written
