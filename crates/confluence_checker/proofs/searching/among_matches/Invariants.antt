use Rattle.std.proofs.Common.{◌≡◌, drop}
use Rattle.table_model.specs.Invariants.{each_from, match_declared}
use Rattle.table_model.specs.Visible.{Rules}
use Rattle.confluence_checker.specs.Forms.{found_among}
use Rattle.confluence_checker.proofs.searching.among_matches.Given as goal

abbrev pub invariant-loop-place : goal.invariant-loop-place
invariant-loop-place l = (rules : Rules) → found_among rules l.rows l.which (each_from (match_declared l.number) l.place (drop l.place l.matches)) l.found ≡ found_among rules l.rows l.which (each_from (match_declared l.number) 0 l.matches) l.fn.before
