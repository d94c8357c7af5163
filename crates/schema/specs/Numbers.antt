-- Tables by their numbers.
use Rattle.std.specs.Prelude.{ℕ, false, List, [], None, unwrap_or, slice_get}
use Rattle.schema.specs.declared.table_def.TableDef.{TableDef}

-- a table of nothing
abbrev pub no_table : TableDef
no_table = record {
  name = [];
  columns = [];
  checks = [];
  matches = [];
  uniques = [];
  kept = None;
  at_most = 0;
  at_most_line = 0;
  deletable = false;
  owned = false;
  sample = [];
}

-- the table with this number, and one of nothing where there is none
abbrev pub table_number : List TableDef → ℕ → TableDef
table_number tables number = unwrap_or (slice_get tables number) no_table
