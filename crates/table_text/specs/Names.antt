-- Names of rows and updates as they are printed. A colon is the byte 58.
use Rattle.std.specs.Prelude.{ℕ, List, ◌∷◌, ◌++◌, slice_index}
use Rattle.std.specs.Fmt.{decimal}
use Rattle.hex.specs.Hex.{encode_lower}
use Rattle.update_model.specs.declared.row_name.RowName.{RowName}
use Rattle.update_model.specs.declared.update_id.UpdateId.{UpdateId}
use Rattle.table_text.specs.declared.name_style.NameStyle.{NameStyle}
use Rattle.table_text.specs.declared.name_style.NameStyle.TheVariants.{Full, Short}

-- the id of an update in lower-case hexadecimal
abbrev pub id_text : UpdateId → List ℕ
id_text id = encode_lower id.0

-- the number of an update of a counterexample: the last of the 32 bytes of its id
abbrev pub number_of : UpdateId → ℕ
number_of id = slice_index id.0 31

-- what stands for an update in the name of a row: its whole id, or its number
abbrev pub update_text : NameStyle → UpdateId → List ℕ
update_text Full id = id_text id
update_text Short id = decimal (number_of id)

-- the name of a row: its update, a colon, and the number of the operation there
abbrev pub name_text : NameStyle → RowName → List ℕ
name_text style name = update_text style name.update ++ 58 ∷ decimal name.index
