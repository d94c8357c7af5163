use Rattle.std.proofs.Common.{◌≡◌, take, map}
use Rattle.confluence_checker.specs.Seeing.{shown_row_by}
use Rattle.confluence_checker.proofs.visibility.shown_among.Given as goal

abbrev pub invariant-loop-row : goal.invariant-loop-row
invariant-loop-row l = l.shown.items ≡ map (shown_row_by l.schema.tables l.seen) (take l.row-index l.rows)
