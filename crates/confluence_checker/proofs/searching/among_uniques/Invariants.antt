use Rattle.std.proofs.Common.{◌≡◌, drop}
use Rattle.table_model.specs.Invariants.{each_from, unique_declared}
use Rattle.table_model.specs.Visible.{Rules}
use Rattle.confluence_checker.specs.Forms.{found_among}
use Rattle.confluence_checker.proofs.searching.among_uniques.Given as goal

abbrev pub invariant-loop-place : goal.invariant-loop-place
invariant-loop-place l = (rules : Rules) → found_among rules l.rows l.which (each_from (unique_declared l.kept l.number) l.place (drop l.place l.uniques)) l.found ≡ found_among rules l.rows l.which (each_from (unique_declared l.kept l.number) 0 l.uniques) l.fn.before
