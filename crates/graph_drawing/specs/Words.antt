-- Texts in a picture. `&` is the byte 38, `<` is 60, `>` is 62, a colon is 58, and a blank is 32.
use Rattle.std.specs.Prelude.{ℕ, ◌-◌, ◌==◌, ◌&&◌, nat_le, nat_lt, Bool, cond, if◌then◌else◌, List, [], ◌∷◌, ◌++◌, take, drop, codes}
use Rattle.std.specs.Fmt.{decimal}
use Rattle.std.specs.Int.{to_be_bytes, w32}
use Rattle.std.specs.List.{flat_map}
use Rattle.hex.specs.Hex.{encode_lower}
use Rattle.update_model.specs.declared.author_key.AuthorKey.{AuthorKey}
use Rattle.update_model.specs.declared.op.Op.{Op}
use Rattle.update_model.specs.declared.op.Op.TheVariants.{Insert, Delete}
use Rattle.update_model.specs.declared.row_name.RowName.{RowName}
use Rattle.update_model.specs.declared.update_id.UpdateId.{UpdateId}
use Rattle.update_model.specs.declared.value.Value.{Value}
use Rattle.update_model.specs.declared.value.Value.TheVariants.{Null, Int, Text, Flag, Row, Own}
use Rattle.schema.specs.declared.table_def.TableDef.{TableDef}
use Rattle.table_model.specs.declared.reason.TheConstants.{NO_TABLE, MISFIT, CHECK_FALSE, NO_TARGET, MATCH_FALSE, NOT_DELETABLE, NOT_OWNER, RESTRICTED}
use Rattle.table_text.specs.declared.name_style.NameStyle.TheVariants.{Full}
use Rattle.table_text.specs.Operations.{table_word}
use Rattle.table_text.specs.Values.{value_text}

-- a number between two texts
unfoldable pub around : List ℕ → ℕ → List ℕ → List ℕ
around before number after = before ++ (decimal number ++ after)

-- the first digits of an id, so many
abbrev pub short_id : ℕ → UpdateId → List ℕ
short_id digits id = take digits (encode_lower id.0)

-- a key in 112 digits, as `keygen` prints it: its types, its identifier and its root
unfoldable pub key_digits : AuthorKey → List ℕ
key_digits key = encode_lower (to_be_bytes w32 key.lms) ++ (encode_lower (to_be_bytes w32 key.ots) ++ (encode_lower key.ident ++ encode_lower key.root))

-- the last eight digits of a key, as `keygen` prints it
abbrev pub key_end : AuthorKey → List ℕ
key_end key = encode_lower (take 4 (drop 28 key.root))

-- the name of a row, with so many digits of its id
abbrev pub short_name : ℕ → RowName → List ℕ
short_name digits name = short_id digits name.update ++ 58 ∷ decimal name.index

-- a value as in a transaction, where rows have short names
abbrev pub short_value : ℕ → Value → List ℕ
short_value digits Null = value_text Full Null
short_value digits (Int n) = value_text Full (Int n)
short_value digits (Text text) = value_text Full (Text text)
short_value digits (Flag flag) = value_text Full (Flag flag)
short_value digits (Row name) = short_name digits name
short_value digits (Own index) = value_text Full (Own index)

-- an operation as in a transaction, where rows have short names
abbrev pub short_operation : ℕ → List TableDef → Op → List ℕ
short_operation digits tables (Insert table values) = codes "INSERT " ++ table_word tables table ++ flat_map (λ value. 32 ∷ short_value digits value) values
short_operation digits tables (Delete row) = codes "DELETE " ++ short_name digits row

-- whether a byte goes on with a character that began before it
abbrev pub goes_on : ℕ → Bool
goes_on byte = nat_le 128 byte && nat_lt byte 192

-- one byte of a text, as it is written in XML
abbrev pub marked : ℕ → List ℕ
marked byte =
    if byte == 38 then codes "&amp;"
    else if byte == 60 then codes "&lt;"
    else if byte == 62 then codes "&gt;"
    else byte ∷ []

-- So many characters of a text, as they are written in XML, and two dots where there are more.
abbrev pub clipped : List ℕ → ℕ → List ℕ
clipped [] count = []
clipped (byte ∷ bytes) count = cond (goes_on byte) (byte ∷ clipped bytes count) (cond (count == 0) (codes "..") (marked byte ++ clipped bytes (count - 1)))

-- why an update does nothing
abbrev pub reason_words : ℕ → List ℕ
reason_words reason =
    if reason == NO_TABLE then codes "void: there is no such table"
    else if reason == MISFIT then codes "void: values do not fit the columns"
    else if reason == CHECK_FALSE then codes "void: a CHECK is false"
    else if reason == NO_TARGET then codes "void: a row that it names is not there"
    else if reason == MATCH_FALSE then codes "void: a MATCH is false"
    else if reason == NOT_DELETABLE then codes "void: a row cannot be deleted"
    else if reason == NOT_OWNER then codes "void: it deletes another author's row"
    else if reason == RESTRICTED then codes "void: a row names the deleted one"
    else codes "void: another row has this value"
