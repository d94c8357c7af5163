use Rattle.std.proofs.Common.{◌≡◌, map, take}
use Rattle.std.specs.Prelude.{filter}
use Rattle.node_commands.specs.Notes.{is_noted}
use Rattle.look_commands.proofs.notes.noted_of.Given as goal

-- those up to here
abbrev pub invariant-loop-position : goal.invariant-loop-position
invariant-loop-position l = map (λ update. update.now) l.noted.items ≡ filter is_noted (take l.position l.graph)
