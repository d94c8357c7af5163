-- Transactions as they are printed, and which of them are read again. An LF is the byte 10.
use Rattle.std.specs.Prelude.{◌≡◌, ◌==◌, ◌&&◌, ℕ, ◌≤◌, Bool, false, List, [], ◌∷◌, ◌++◌, length, Some, IsTrue, position, slice_get, bytes_eq}
use Rattle.std.specs.List.{AllByRecursion, flat_map}
use Rattle.std.specs.Option.{option_map_or}
use Rattle.update_model.specs.declared.limits.TheConstants.{MAX_OPS}
use Rattle.update_model.specs.declared.op.Op.{Op}
use Rattle.update_model.specs.declared.op.Op.TheVariants.{Insert, Delete}
use Rattle.update_model.specs.Rows.{AreOps}
use Rattle.text_words.specs.Names.{is_a_name}
use Rattle.schema.specs.declared.table_def.TableDef.{TableDef}
use Rattle.table_text.specs.declared.name_style.NameStyle.TheVariants.{Full}
use Rattle.table_text.specs.Operations.{operation_text}
use Rattle.txn_text.specs.Operations.{table_named}
use Rattle.txn_text.specs.declared.limits.TheConstants.{MAX_TRANSACTION_BYTES}

-- the line of an operation
abbrev pub line_text : List TableDef → Op → List ℕ
line_text tables op = operation_text tables Full op ++ 10 ∷ []

-- a transaction: a line for each operation
abbrev pub transaction_text : List TableDef → List Op → List ℕ
transaction_text tables ops = flat_map (line_text tables) ops

-- A table has a name, and is the first that has it.
pub record IsNamed (tables : List TableDef) (number : ℕ) (table : TableDef) : Type 0 where
  pub spelled : IsTrue (is_a_name table.name)
  pub first : position (λ other. bytes_eq other.name table.name) tables ≡ Some number

-- whether a table is found by this name under this number
abbrev pub is_found : List TableDef → ℕ → List ℕ → Bool
is_found tables number name = is_a_name name && option_map_or (λ first. first == number) (table_named tables name) false

-- Each table is found by its name, as in every schema that a text declares.
abbrev pub AreNamed : List TableDef → Type 0
AreNamed tables = (number : ℕ) (table : TableDef) → slice_get tables number ≡ Some table → IsNamed tables number table

-- An insert is into one of the tables, with a value for each of its columns.
abbrev pub HasTable : List TableDef → Op → Type 0
HasTable tables (Insert number values) = (table : TableDef) × (slice_get tables number ≡ Some table) × (length values ≡ length table.columns)
HasTable tables (Delete row) = Unit {0}

-- These operations are in form, are of these tables, and their text is not too long.
pub record IsPrintable (tables : List TableDef) (ops : List Op) : Type 0 where
  pub few : length ops ≤ MAX_OPS
  pub form : AreOps 0 ops
  pub tables_there : AllByRecursion (HasTable tables) ops
  pub short : length (transaction_text tables ops) ≤ MAX_TRANSACTION_BYTES
