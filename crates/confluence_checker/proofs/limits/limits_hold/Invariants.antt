use Rattle.std.proofs.Common.{◌≡◌, drop}
use Rattle.table_model.specs.Verdicts.{limits_hold}
use Rattle.confluence_checker.proofs.limits.limits_hold.Given as goal

abbrev pub invariant-loop-number : goal.invariant-loop-number
invariant-loop-number l = limits_hold l.rows l.number (drop l.number l.schema.tables) ≡ limits_hold l.rows 0 l.schema.tables
