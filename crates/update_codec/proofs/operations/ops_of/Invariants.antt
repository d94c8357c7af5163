use Rattle.std.proofs.Common.{◌≡◌, ◌-◌}
use Rattle.update_codec.specs.Reading.{ops_at}
use Rattle.update_codec.proofs.Loops.{with_front}
use Rattle.update_codec.proofs.operations.ops_of.Given as goal

-- the operations so far, and those that are still read, are all of them
abbrev pub invariant-loop-number : goal.invariant-loop-number
invariant-loop-number l = with_front l.ops.items (ops_at (l.count - l.number) l.number l.rest) ≡ ops_at l.count 0 l.bytes
