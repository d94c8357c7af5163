use Rattle.std.proofs.Common.{◌≡◌, ◌++◌, drop, All}
use Rattle.schema_text.specs.Written.{sample_row}
use Rattle.schema_text.specs.Kept.{IsRowValue}
use Rattle.schema_text.proofs.samples.sample_row.Given as goal

-- the row so far and that of the columns and values that are left are the whole row
abbrev pub invariant-loop-column : goal.invariant-loop-column
invariant-loop-column l = record {
  told : l.row.items ++ sample_row (drop l.column-index l.columns) l.rest ≡ sample_row l.columns l.values;
  texts : All IsRowValue l.rest;
}
