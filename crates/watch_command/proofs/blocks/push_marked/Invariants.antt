use Rattle.std.proofs.Common.{◌≡◌, ◌++◌, take}
use Rattle.watch_command.specs.Blocks.{marked}
use Rattle.watch_command.proofs.blocks.push_marked.Given as goal

-- the lines so far
abbrev pub invariant-loop-line : goal.invariant-loop-line
invariant-loop-line l = l.text.items ≡ l.fn.text.items ++ marked l.mark (take l.line-index l.lines)
