-- Cells of a table of a page. A colon is the byte 58.
use Rattle.std.specs.Prelude.{ℕ, List, ◌∷◌, ◌++◌, take, codes}
use Rattle.std.specs.Fmt.{decimal}
use Rattle.std.specs.List.{flat_map}
use Rattle.hex.specs.Hex.{encode_lower}
use Rattle.update_model.specs.declared.row_name.RowName.{RowName}
use Rattle.update_model.specs.declared.update_id.UpdateId.{UpdateId}
use Rattle.update_model.specs.declared.value.Value.{Value}
use Rattle.update_model.specs.declared.value.Value.TheVariants.{Null, Int, Text, Flag, Row, Own}
use Rattle.table_text.specs.declared.name_style.NameStyle.TheVariants.{Full}
use Rattle.table_text.specs.Names.{name_text}
use Rattle.table_text.specs.Values.{value_text}
use Rattle.page_text.specs.Marks.{html_text}

-- the first eight digits of an id
abbrev pub short_id : UpdateId → List ℕ
short_id id = encode_lower (take 4 id.0)

-- the name of a row, with a short id
abbrev pub short_name : RowName → List ℕ
short_name name = short_id name.update ++ 58 ∷ decimal name.index

-- a cell with this in it
abbrev pub cell_of : List ℕ → List ℕ
cell_of inner = codes "<td>" ++ (inner ++ codes "</td>")

-- where a link to a row leads
unfoldable pub link_begin : RowName → List ℕ
link_begin name = codes "<a class=\"id\" href=\"#r" ++ (name_text Full name ++ codes "\">")

-- a short name that leads to the row
unfoldable pub link_to : RowName → List ℕ
link_to name = link_begin name ++ (short_name name ++ codes "</a>")

-- The cell of a value: a text as it was written, a row by a short name that leads to it, and else as a dump has it.
abbrev pub cell : Value → List ℕ
cell Null = codes "<td class=\"null\">null</td>"
cell (Int n) = cell_of (value_text Full (Int n))
cell (Text text) = cell_of (html_text text)
cell (Flag flag) = cell_of (value_text Full (Flag flag))
cell (Row name) = cell_of (link_to name)
cell (Own index) = cell_of (value_text Full (Own index))

-- the cells of a row
abbrev pub cells : List Value → List ℕ
cells values = flat_map cell values
