-- Tables as JSON (RFC 8259), with the updates that do nothing. A comma is the byte 44.
use Rattle.std.specs.Prelude.{ℕ, zero, suc, pos, List, [], ◌∷◌, ◌++◌, Option, Some, None, codes}
use Rattle.std.specs.List.{zip}
use Rattle.update_model.specs.declared.value.Value.{Value}
use Rattle.update_model.specs.declared.value.Value.TheVariants.{Int, Text, Row}
use Rattle.schema.specs.declared.table_def.TableDef.{TableDef}
use Rattle.table_model.specs.declared.shown_row.ShownRow.{ShownRow}
use Rattle.table_model.specs.declared.void_line.VoidLine.{VoidLine}
use Rattle.table_text.specs.Names.{id_text}
use Rattle.serde_json.specs.Data.{Data, member, no_members, object, string}
use Rattle.query_answer.specs.Json.{json_list, json_quoted, json_value, list_data, value_data}

-- a row: its name, and its values
abbrev pub row_values : ShownRow → List Value
row_values row = Row row.name ∷ row.values

-- an update that does nothing: its id as a text, the reason, and the number of the operation
abbrev pub void_values : VoidLine → List Value
void_values line = Text (id_text line.id) ∷ Int (pos line.reason) ∷ Int (pos line.operation) ∷ []

abbrev pub json_row : ShownRow → List ℕ
json_row row = json_list json_value (row_values row)

abbrev pub json_void : VoidLine → List ℕ
json_void line = json_list json_value (void_values line)

-- a table: its name, and its rows
abbrev pub json_table : TableDef × List ShownRow → List ℕ
json_table (table, rows) = codes "{\"name\":" ++ (json_quoted table.name ++ (codes ",\"rows\":" ++ (json_list json_row rows ++ codes "}")))

-- the tables of a schema with their rows, as long as there are both, and then the updates that do nothing, and an LF behind it
abbrev pub tables_json_text : List TableDef → List (List ShownRow) → List VoidLine → List ℕ
tables_json_text tables lists voids =
    codes "{\"tables\":" ++ (json_list json_table (zip tables lists) ++ (codes ",\"voids\":" ++ (json_list json_void voids ++ codes "}\n")))

-- ---- table after table

-- what stands before an item of a list by its number
abbrev pub comma_before : ℕ → List ℕ
comma_before zero = []
comma_before (suc n) = 44 ∷ []

-- the table of this number behind those before it, where it is there and has rows
abbrev pub next_table : ℕ → Option TableDef → Option (List ShownRow) → List ℕ
next_table number None rows = []
next_table number (Some table) None = []
next_table number (Some table) (Some rows) = comma_before number ++ json_table (table, rows)

-- ---- as the crate `serde_json` sees them

abbrev pub row_data : ShownRow → Data
row_data row = list_data value_data (row_values row)

abbrev pub void_data : VoidLine → Data
void_data line = list_data value_data (void_values line)

abbrev pub table_data : TableDef × List ShownRow → Data
table_data (table, rows) = object (member (codes "name") (string table.name) (member (codes "rows") (list_data row_data rows) no_members))

-- the object of tables
abbrev pub tables_data : List TableDef → List (List ShownRow) → List VoidLine → Data
tables_data tables lists voids =
    object (member (codes "tables") (list_data table_data (zip tables lists)) (member (codes "voids") (list_data void_data voids) no_members))
