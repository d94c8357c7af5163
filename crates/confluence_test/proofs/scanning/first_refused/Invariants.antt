use Rattle.std.proofs.Common.{◌≡◌, drop}
use Rattle.table_model.specs.Invariants.{each_from, table_declared}
use Rattle.confluence_test.specs.Findings.{first_refused}
use Rattle.table_model.specs.Visible.{bare_rules}
use Rattle.confluence_test.proofs.scanning.first_refused.Given as goal

abbrev pub invariant-loop-number : goal.invariant-loop-number
invariant-loop-number l =
    first_refused (bare_rules l.schema.tables) (each_from table_declared l.number (drop l.number l.schema.tables)) ≡ first_refused (bare_rules l.schema.tables) (each_from table_declared 0 l.schema.tables)
