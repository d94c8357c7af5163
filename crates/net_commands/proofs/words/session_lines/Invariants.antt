use Rattle.std.proofs.Common.{◌≡◌, ◌+◌, ◌++◌, drop}
use Rattle.net_commands.specs.Words.{lines_from}
use Rattle.net_commands.proofs.words.session_lines.Given as goal

-- the lines so far, with those of the sessions that are left
abbrev pub invariant-loop-served : goal.invariant-loop-served
invariant-loop-served l = record {
  so_far : l.text.items ++ lines_from (l.number + 1) (drop l.served-index l.sessions) ≡ lines_from 1 l.sessions;
  count : l.number ≡ l.served-index;
}
