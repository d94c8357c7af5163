-- The JSON of tables is the compact text of their object.
use Rattle.std.proofs.Common.{◌≡◌, ◌∙◌, ℕ, List, [], ◌∷◌, ◌++◌, refl, ap₂}
use Rattle.std.specs.Prelude.{codes}
use Rattle.std.specs.List.{zip}
use Rattle.schema.specs.declared.table_def.TableDef.{TableDef}
use Rattle.table_model.specs.declared.shown_row.ShownRow.{ShownRow}
use Rattle.table_model.specs.declared.void_line.VoidLine.{VoidLine}
use Rattle.json.specs.Print.{quoted}
use Rattle.serde_json.specs.Data.{string}
use Rattle.serde_json.specs.Written.{compact_text}
use Rattle.serde_json.proofs.OnLiterals.{serde_json_on_literals}
use Rattle.query_answer.specs.Json.{json_value, list_data, value_data}
use Rattle.query_answer.specs.TablesJson.{json_row, json_table, json_void, row_data, row_values, table_data, tables_data, tables_json_text, void_data, void_values}
use Rattle.query_answer.proofs.Compact.{framed, framed_line, rows_part, same_list, same_quoted, same_value}

name_opens : codes "{\"name\":" ≡ 123 ∷ (quoted (codes "name") ++ 58 ∷ [])
unfolding serde_json_on_literals
name_opens = refl

tables_open : codes "{\"tables\":" ≡ 123 ∷ (quoted (codes "tables") ++ 58 ∷ [])
unfolding serde_json_on_literals
tables_open = refl

voids_part : codes ",\"voids\":" ≡ 44 ∷ (quoted (codes "voids") ++ 58 ∷ [])
unfolding serde_json_on_literals
voids_part = refl

same_row : (row : ShownRow) → json_row row ≡ compact_text (row_data row)
same_row row = same_list json_value value_data same_value (row_values row)

same_void : (line : VoidLine) → json_void line ≡ compact_text (void_data line)
same_void line = same_list json_value value_data same_value (void_values line)

same_table : (pair : TableDef × List ShownRow) → json_table pair ≡ compact_text (table_data pair)
same_table (table, rows) =
    ap₂ (λ (name listed : List ℕ). codes "{\"name\":" ++ (name ++ (codes ",\"rows\":" ++ (listed ++ codes "}")))) (same_quoted table.name) (same_list json_row row_data same_row rows)
    ∙ framed (codes "{\"name\":") (codes ",\"rows\":") (codes "name") (codes "rows") (string table.name) (list_data row_data rows) name_opens rows_part

pub tables_compact : (tables : List TableDef) (lists : List (List ShownRow)) (voids : List VoidLine)
    → tables_json_text tables lists voids ≡ compact_text (tables_data tables lists voids) ++ 10 ∷ []
tables_compact tables lists voids =
    let filled = same_list json_table table_data same_table (zip tables lists) in
    let lines = same_list json_void void_data same_void voids in
    ap₂ (λ (ts vs : List ℕ). codes "{\"tables\":" ++ (ts ++ (codes ",\"voids\":" ++ (vs ++ codes "}\n")))) filled lines
    ∙ framed_line (codes "{\"tables\":") (codes ",\"voids\":") (codes "tables") (codes "voids") (list_data table_data (zip tables lists)) (list_data void_data voids) tables_open voids_part
