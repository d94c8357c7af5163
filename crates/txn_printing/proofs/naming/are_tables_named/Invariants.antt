use Rattle.std.proofs.Common.{◌≡◌, ◌<◌, ℕ, Some}
use Rattle.std.specs.Prelude.{slice_get}
use Rattle.schema.specs.declared.table_def.TableDef.{TableDef}
use Rattle.txn_printing.specs.Printing.{IsNamed}
use Rattle.txn_printing.proofs.naming.are_tables_named.Given as goal

-- each table so far is found by its name
abbrev pub invariant-loop-number : goal.invariant-loop-number
invariant-loop-number l = (k : ℕ) (table : TableDef) → k < l.number → slice_get l.schema.tables k ≡ Some table → IsNamed l.schema.tables k table
