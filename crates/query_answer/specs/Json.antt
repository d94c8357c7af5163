-- Answers as JSON (RFC 8259). A comma is the byte 44, a quote 34, and brackets are 91 and 93.
use Rattle.std.specs.Prelude.{ℕ, ◌/◌, ◌%◌, ◌==◌, nat_lt, List, [], ◌∷◌, ◌++◌, map, if◌then◌else◌, codes}
use Rattle.std.specs.Char.{digit_char}
use Rattle.std.specs.Fmt.{signed_decimal}
use Rattle.std.specs.List.{flat_map}
use Rattle.update_model.specs.declared.value.Value.{Value}
use Rattle.update_model.specs.declared.value.Value.TheVariants.{Null, Int, Text, Flag, Row, Own}
use Rattle.table_text.specs.declared.name_style.NameStyle.TheVariants.{Full}
use Rattle.table_text.specs.Values.{value_text}
use Rattle.serde_json.specs.Data.{Data, array, boolean, member, no_members, null, number, object, string}
use Rattle.serde_json.specs.Find.{of_integer}
use Rattle.serde_json.specs.View.{items_of}
use Rattle.query_answer.specs.Answers.{AnswerData}
use Rattle.query_answer.specs.Lines.{apart}

-- One byte of a text: the escape that is a letter where it has one, `\u` and four lower-case digits where it is another one
-- below 32, and else as it is.
abbrev pub json_escaped : ℕ → List ℕ
json_escaped byte =
    if byte == 34 then 92 ∷ 34 ∷ []
    else if byte == 92 then 92 ∷ 92 ∷ []
    else if byte == 8 then 92 ∷ 98 ∷ []
    else if byte == 12 then 92 ∷ 102 ∷ []
    else if byte == 10 then 92 ∷ 110 ∷ []
    else if byte == 13 then 92 ∷ 114 ∷ []
    else if byte == 9 then 92 ∷ 116 ∷ []
    else if nat_lt byte 32 then 92 ∷ 117 ∷ 48 ∷ 48 ∷ digit_char (byte / 16) ∷ digit_char (byte % 16) ∷ []
    else byte ∷ []

-- a text in quotes
abbrev pub json_quoted : List ℕ → List ℕ
json_quoted text = 34 ∷ (flat_map json_escaped text ++ 34 ∷ [])

-- A value. The name of a row is a text, as it is printed.
abbrev pub json_value : Value → List ℕ
json_value Null = codes "null"
json_value (Int n) = signed_decimal n
json_value (Text text) = json_quoted text
json_value (Flag flag) = if flag then codes "true" else codes "false"
json_value (Row name) = json_quoted (value_text Full (Row name))
json_value (Own index) = json_quoted (value_text Full (Own index))

-- a list, in brackets
abbrev pub json_list : {X : Type 0} → (X → List ℕ) → List X → List ℕ
json_list text xs = 91 ∷ (apart 44 text xs ++ 93 ∷ [])

-- the names of the columns, and the rows, and an LF behind it
abbrev pub json_text : AnswerData → List ℕ
json_text answer =
    codes "{\"columns\":" ++ (json_list json_quoted answer.columns
    ++ (codes ",\"rows\":" ++ (json_list (json_list json_value) answer.rows ++ codes "}\n")))

-- ---- as the crate `serde_json` sees values

abbrev pub value_data : Value → Data
value_data Null = null
value_data (Int n) = number (of_integer n)
value_data (Text text) = string text
value_data (Flag flag) = boolean flag
value_data (Row name) = string (value_text Full (Row name))
value_data (Own index) = string (value_text Full (Own index))

abbrev pub list_data : {X : Type 0} → (X → Data) → List X → Data
list_data data_of xs = array (items_of (map data_of xs))

-- the object of an answer
abbrev pub answer_data : AnswerData → Data
answer_data answer =
    object (member (codes "columns") (list_data string answer.columns)
    (member (codes "rows") (list_data (list_data value_data) answer.rows) no_members))
