use Rattle.std.proofs.Common.{◌≡◌, take}
use Rattle.table_model.specs.Verdicts.{left_of}
use Rattle.confluence_checker.proofs.newness.left_of.Given as goal

abbrev pub invariant-loop-row : goal.invariant-loop-row
invariant-loop-row l = l.left.items ≡ left_of (take l.row-index l.rows) l.deleted
