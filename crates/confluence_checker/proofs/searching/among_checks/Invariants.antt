use Rattle.std.proofs.Common.{◌≡◌, drop}
use Rattle.table_model.specs.Invariants.{each_from, check_declared}
use Rattle.confluence_checker.specs.Forms.{found_among}
use Rattle.table_model.specs.Visible.{rules_with}
use Rattle.confluence_checker.proofs.searching.among_checks.Given as goal

abbrev pub invariant-loop-place : goal.invariant-loop-place
invariant-loop-place g l = found_among (rules_with g.L.Relation.answer l.search.checker.schema.now.tables) l.search.rows.now l.search.which.now (each_from (check_declared l.number) l.place (drop l.place l.checks)) l.found ≡ found_among (rules_with g.L.Relation.answer l.search.checker.schema.now.tables) l.search.rows.now l.search.which.now (each_from (check_declared l.number) 0 l.checks) l.fn.before
