-- Tables as they are printed. A blank is the byte 32, and an LF is 10.
use Rattle.std.specs.Prelude.{ℕ, List, [], ◌∷◌, ◌++◌, Option, Some, None, codes}
use Rattle.std.specs.Fmt.{decimal}
use Rattle.std.specs.List.{flat_map}
use Rattle.table_model.specs.declared.shown_row.ShownRow.{ShownRow}
use Rattle.schema.specs.declared.table_def.TableDef.{TableDef}
use Rattle.table_model.specs.declared.void_line.VoidLine.{VoidLine}
use Rattle.table_text.specs.declared.name_style.NameStyle.TheVariants.{Full}
use Rattle.table_text.specs.Names.{id_text, name_text}
use Rattle.table_text.specs.Values.{values_text}

-- the line of a row: its name, and its values
abbrev pub row_text : ShownRow → List ℕ
row_text row = name_text Full row.name ++ values_text Full row.values ++ 10 ∷ []

-- a table: a line with its name, and the lines of its rows
abbrev pub table_text : TableDef → List ShownRow → List ℕ
table_text table rows = codes "TABLE " ++ table.name ++ 10 ∷ flat_map row_text rows

-- the line of an update that does nothing: its id, the reason, and the number of the operation
abbrev pub void_text : VoidLine → List ℕ
void_text line = codes "VOID " ++ id_text line.id ++ 32 ∷ decimal line.reason ++ 32 ∷ decimal line.operation ++ 10 ∷ []

-- a table and its rows, where there are both
abbrev pub pair_text : Option TableDef → Option (List ShownRow) → List ℕ
pair_text None rows = []
pair_text (Some table) None = []
pair_text (Some table) (Some rows) = table_text table rows

-- each table with its rows, as long as there are both
abbrev pub filled_text : List TableDef → List (List ShownRow) → List ℕ
filled_text [] lists = []
filled_text (table ∷ tables) [] = []
filled_text (table ∷ tables) (rows ∷ lists) = table_text table rows ++ filled_text tables lists

-- the tables of a schema with their rows, and then the updates that do nothing
abbrev pub tables_text : List TableDef → List (List ShownRow) → List VoidLine → List ℕ
tables_text tables lists voids = filled_text tables lists ++ flat_map void_text voids
