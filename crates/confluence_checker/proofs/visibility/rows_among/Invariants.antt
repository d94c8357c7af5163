use Rattle.std.proofs.Common.{◌≡◌, take, filter}
use Rattle.confluence_checker.specs.Forms.{is_among}
use Rattle.confluence_checker.proofs.visibility.rows_among.Given as goal

abbrev pub invariant-loop-row : goal.invariant-loop-row
invariant-loop-row l = l.found.items ≡ filter (λ row. is_among l.seen row.name) (take l.row-index l.rows)
