use Rattle.std.proofs.Common.{◌≡◌, ◌++◌, take}
use Rattle.bec_bytes.specs.Framed.{stream_of}
use Rattle.node_commands.proofs.commands.export.push_records.Given as goal

abbrev pub invariant-loop-position : goal.invariant-loop-position
invariant-loop-position g l = l.bytes.items ≡ l.initial.bytes.items ++ stream_of (take l.position l.replica.history.members)
