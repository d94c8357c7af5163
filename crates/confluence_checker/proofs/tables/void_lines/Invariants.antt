use Rattle.std.proofs.Common.{◌≡◌, take, reverse}
use Rattle.table_model.specs.Tables.{void_lines}
use Rattle.confluence_checker.specs.Forms.{newest_first}
use Rattle.confluence_checker.proofs.tables.void_lines.Given as goal

abbrev pub invariant-loop-j : goal.invariant-loop-j
invariant-loop-j l = reverse l.lines.items ≡ void_lines (newest_first (take l.j-index l.js))
