use Rattle.std.proofs.Common.{◌≡◌, map, take}
use Rattle.node_commands.specs.Notes.{note_lines}
use Rattle.node_commands.proofs.commands.notes.notes_text.Given as goal

abbrev pub invariant-loop-update : goal.invariant-loop-update
invariant-loop-update l = l.text.items ≡ note_lines (map (λ update. update.now) (take l.update-index l.noted))
