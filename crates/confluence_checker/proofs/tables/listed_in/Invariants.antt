use Rattle.std.proofs.Common.{◌≡◌, take, map, filter}
use Rattle.table_model.specs.Tables.{listed}
use Rattle.table_model.specs.Verdicts.{in_table}
use Rattle.confluence_checker.proofs.tables.listed_in.Given as goal

abbrev pub invariant-loop-row : goal.invariant-loop-row
invariant-loop-row l = l.shown.items ≡ map listed (filter (in_table l.table) (take l.row-index l.rows))
