-- What every schema keeps, so that its expressions may be asked of rows that fit and its numbers name what is there.
use Rattle.std.specs.Prelude.{ℕ, ◌≤◌, ◌≤ℤ◌, Bool, not, ◌&&◌, ◌||◌, nat_lt, List, [], ◌∷◌, ◌++◌, length, slice_get, Option, Some, None, IsTrue, MatchOption}
use Rattle.std.specs.List.{AllByRecursion}
use Rattle.update_model.specs.declared.limits.TheConstants.{MAX_TEXT}
use Rattle.row_check.specs.Kinds.{HasKinds}
use Rattle.schema.specs.declared.column.Column.{Column}
use Rattle.schema.specs.declared.column.ColumnKind.{ColumnKind}
use Rattle.schema.specs.declared.column.ColumnKind.TheVariants as kind
use Rattle.schema.specs.declared.limits.TheConstants.{MAX_CHECKS, MAX_COLUMNS, MAX_MATCHES, MAX_TABLES}
use Rattle.schema.specs.declared.rules.MatchRule.{MatchRule}
use Rattle.schema.specs.declared.rules.UniqueRule.{UniqueRule}
use Rattle.schema.specs.declared.table_def.TableDef.{TableDef}
use Rattle.schema.specs.Checks.{CheckData}
use Rattle.schema.specs.Columns.{is_reference, kinds_of, reference_at, is_restrict, is_set_null, are_comparable}
use Rattle.schema.specs.Data.{SchemaData}
use Rattle.schema.specs.Least.{IsKeptAlone, holds_steady, leaves_itself, steady_tables, targets_of}
use Rattle.schema.specs.Rows.{fits_sample}

-- In the table with this number: bounds rise, lengths are at most those of a text in a row, a reference is to an earlier table or to its own
-- with NULL, and SETNULL has NULL.
abbrev pub IsSoundKind : ℕ → Bool → ColumnKind → Type 0
IsSoundKind number null (kind.Int lo hi) = lo ≤ℤ hi
IsSoundKind number null (kind.Text lo hi) = (lo ≤ hi) × (hi ≤ MAX_TEXT)
IsSoundKind number null kind.Flag = Unit {0}
IsSoundKind number null (kind.Reference target act) = (target ≤ number) × IsTrue (null || nat_lt target number) × IsTrue (null || not (is_set_null act))

abbrev pub IsSoundColumn : ℕ → Column → Type 0
IsSoundColumn number column = IsSoundKind number column.null column.kind

-- the columns of one of those before a table, or of that table
abbrev pub columns_or : Option TableDef → List Column → List Column
columns_or None columns = columns
columns_or (Some table) columns = table.columns

-- A MATCH of a table with these columns, behind these tables, compares two plain columns of one kind, along a reference
-- that is not RESTRICT.
abbrev pub IsSoundMatch : List TableDef → List Column → MatchRule → Type 0
IsSoundMatch before columns rule = MatchOption (reference_at columns rule.reference) ⊥
    (λ r. IsTrue (not (is_restrict r.1)) × IsTrue (are_comparable (slice_get columns rule.column) (slice_get (columns_or (slice_get before r.0) columns) rule.target_column)))

-- A UNIQUE is of a plain column without NULL.
abbrev pub IsSoundUnique : List Column → UniqueRule → Type 0
IsSoundUnique columns rule = MatchOption (slice_get columns rule.column) ⊥ (λ column. IsTrue (not (is_reference column.kind) && not column.null))

-- A CHECK reads plain columns, and compares values of one kind.
abbrev pub IsSoundCheck : List Column → CheckData → Type 0
IsSoundCheck columns check = HasKinds (kinds_of columns) check.tree

-- A table behind these is sound.
pub record IsSoundTable (before : List TableDef) (table : TableDef) : Type 0 where
  pub few_columns : length table.columns ≤ MAX_COLUMNS
  pub columns : AllByRecursion (IsSoundColumn (length before)) table.columns
  pub few_checks : length table.checks ≤ MAX_CHECKS
  pub checks : AllByRecursion (IsSoundCheck table.columns) table.checks
  pub few_matches : length table.matches ≤ MAX_MATCHES
  pub matches : AllByRecursion (IsSoundMatch before table.columns) table.matches
  pub uniques : AllByRecursion (IsSoundUnique table.columns) table.uniques
  pub at_most : table.at_most ≤ 64
  pub kept : IsKeptAlone table.uniques table.at_most table.kept
  pub steady : IsTrue (holds_steady (steady_tables before) table.kept (targets_of table.columns))
  pub leaves : IsTrue (leaves_itself (length before) table.kept (targets_of table.columns))

-- A whole table: it has a column, and a sample that fits.
pub record IsTable (before : List TableDef) (table : TableDef) : Type 0 where
  pub sound : IsSoundTable before table
  pub some_columns : 1 ≤ length table.columns
  pub sample : IsTrue (fits_sample table.columns table.sample)

-- Each of these tables is whole, behind those before it.
abbrev pub AreTables : List TableDef → List TableDef → Type 0
AreTables before [] = Unit {0}
AreTables before (table ∷ tables) = IsTable before table × AreTables (before ++ table ∷ []) tables

-- A schema has a table and not too many, each of them whole.
pub record IsSchema (schema : SchemaData) : Type 0 where
  pub some_tables : 1 ≤ length schema.tables
  pub few_tables : length schema.tables ≤ MAX_TABLES
  pub tables : AreTables [] schema.tables
