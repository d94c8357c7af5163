use Rattle.std.proofs.Common.{◌≡◌, take}
use Rattle.schema.specs.Columns.{kinds_of}
use Rattle.schema_text.proofs.kinds.kinds_of.Given as goal

abbrev pub invariant-loop-column : goal.invariant-loop-column
invariant-loop-column l = l.kinds.items ≡ kinds_of (take l.column-index l.columns)
