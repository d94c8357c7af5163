use Rattle.std.proofs.Common.{◌≡◌, map, take}
use Rattle.std.specs.Prelude.{filter}
use Rattle.node_commands.specs.Notes.{is_noted}
use Rattle.node_commands.proofs.commands.notes.noted_of.Given as goal

abbrev pub invariant-loop-position : goal.invariant-loop-position
invariant-loop-position g l = map (λ update. update.now) l.noted.items ≡ filter is_noted (take l.position l.replica.history.members)
