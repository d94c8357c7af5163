use Rattle.std.proofs.Common.{◌≡◌, take}
use Rattle.schema.specs.Columns.{names_of}
use Rattle.schema_text.proofs.names.names_of.Given as goal

abbrev pub invariant-loop-column : goal.invariant-loop-column
invariant-loop-column l = l.names.items ≡ names_of (take l.column-index l.columns)
