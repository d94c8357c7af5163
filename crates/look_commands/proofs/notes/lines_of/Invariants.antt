use Rattle.std.proofs.Common.{◌≡◌, map, take}
use Rattle.look_commands.specs.Telling.{note_line_of}
use Rattle.look_commands.proofs.notes.lines_of.Given as goal

-- the notes so far
abbrev pub invariant-loop-update : goal.invariant-loop-update
invariant-loop-update l = l.lines.items ≡ map note_line_of (map (λ update. update.now) (take l.update-index l.noted))
