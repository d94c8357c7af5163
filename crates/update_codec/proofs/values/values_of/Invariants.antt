use Rattle.std.proofs.Common.{◌≡◌, ◌-◌}
use Rattle.update_codec.specs.Reading.{values_at}
use Rattle.update_codec.proofs.Loops.{with_front}
use Rattle.update_codec.proofs.values.values_of.Given as goal

-- the values so far, and those that are still read, are all of them
abbrev pub invariant-loop : goal.invariant-loop
invariant-loop l = with_front l.values.items (values_at l.number (l.count - l.counter) l.rest) ≡ values_at l.number l.count l.bytes
