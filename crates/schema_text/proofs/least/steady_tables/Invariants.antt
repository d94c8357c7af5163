use Rattle.std.proofs.Common.{◌≡◌, take}
use Rattle.schema.specs.Least.{steady_tables}
use Rattle.schema_text.proofs.least.steady_tables.Given as goal

-- which tables so far are steady
abbrev pub invariant-loop-number : goal.invariant-loop-number
invariant-loop-number l = l.known.items ≡ steady_tables (take l.number l.tables)
