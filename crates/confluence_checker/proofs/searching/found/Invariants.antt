use Rattle.std.proofs.Common.{◌≡◌, drop}
use Rattle.table_model.specs.Invariants.{each_from, table_declared}
use Rattle.confluence_checker.specs.Forms.{found_among, start}
use Rattle.table_model.specs.Visible.{rules_with}
use Rattle.confluence_checker.proofs.searching.found.Given as goal

abbrev pub invariant-loop-number : goal.invariant-loop-number
invariant-loop-number g l = found_among (rules_with g.L.Relation.answer l.schema.tables) l.rows l.which (each_from table_declared l.number (drop l.number l.schema.tables)) l.found ≡ found_among (rules_with g.L.Relation.answer l.schema.tables) l.rows l.which (each_from table_declared 0 l.schema.tables) start
