-- Operations as they are printed.
use Rattle.std.specs.Prelude.{ℕ, List, ◌++◌, Option, Some, None, slice_get, codes}
use Rattle.std.specs.Fmt.{decimal}
use Rattle.update_model.specs.declared.op.Op.{Op}
use Rattle.update_model.specs.declared.op.Op.TheVariants.{Insert, Delete}
use Rattle.schema.specs.declared.table_def.TableDef.{TableDef}
use Rattle.table_text.specs.declared.name_style.NameStyle.{NameStyle}
use Rattle.table_text.specs.Names.{name_text}
use Rattle.table_text.specs.Values.{values_text}

-- the name of a table, or this number where there is none
abbrev pub name_or_number : Option TableDef → ℕ → List ℕ
name_or_number (Some table) number = table.name
name_or_number None number = decimal number

-- the table with this number: its name, or the number where the schema has no such table
abbrev pub table_word : List TableDef → ℕ → List ℕ
table_word tables number = name_or_number (slice_get tables number) number

-- an operation as in a transaction
abbrev pub operation_text : List TableDef → NameStyle → Op → List ℕ
operation_text tables style (Insert table values) = codes "INSERT " ++ table_word tables table ++ values_text style values
operation_text tables style (Delete row) = codes "DELETE " ++ name_text style row
