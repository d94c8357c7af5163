-- Values as they are printed. A blank is the byte 32, and `$` is 36.
use Rattle.std.specs.Prelude.{ℕ, ◌+◌, List, ◌∷◌, if◌then◌else◌, codes}
use Rattle.std.specs.Fmt.{decimal, signed_decimal}
use Rattle.std.specs.List.{flat_map}
use Rattle.text_words.specs.Printing.{quoted}
use Rattle.update_model.specs.declared.value.Value.{Value}
use Rattle.update_model.specs.declared.value.Value.TheVariants.{Null, Int, Text, Flag, Row, Own}
use Rattle.table_text.specs.declared.name_style.NameStyle.{NameStyle}
use Rattle.table_text.specs.Names.{name_text}

-- A value. A reference to an earlier operation of the same update counts the operations from 1.
abbrev pub value_text : NameStyle → Value → List ℕ
value_text style Null = codes "NULL"
value_text style (Int n) = signed_decimal n
value_text style (Text text) = quoted text
value_text style (Flag flag) = if flag then codes "TRUE" else codes "FALSE"
value_text style (Row name) = name_text style name
value_text style (Own index) = 36 ∷ decimal (index + 1)

-- values, each after a blank
abbrev pub values_text : NameStyle → List Value → List ℕ
values_text style values = flat_map (λ value. 32 ∷ value_text style value) values
