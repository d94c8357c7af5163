use Rattle.std.proofs.Common.{◌≡◌, take}
use Rattle.bec_bytes.specs.Framed.{stream_of}
use Rattle.look_commands.proofs.records.records_of.Given as goal

-- the records so far
abbrev pub invariant-loop-position : goal.invariant-loop-position
invariant-loop-position l = l.records.items ≡ stream_of (take l.position l.graph)
