-- Values that words write.
use Rattle.std.specs.Prelude.{ℕ, true, false, List, Option, Some, None, option_map, if◌then◌else◌, bytes_eq, codes}
use Rattle.text_words.specs.declared.literal.Literal.{Literal}
use Rattle.text_words.specs.declared.literal.Literal.TheVariants.{Null, Integer, Text, Flag}
use Rattle.text_words.specs.declared.word.Word.{Word}
use Rattle.text_words.specs.declared.word.Word.TheVariants.{Plain, Quoted, Open, Close, Comma}
use Rattle.text_words.specs.Integers.{int_of}

-- NULL, TRUE, FALSE, or an integer
abbrev pub plain_literal : List ℕ → Option Literal
plain_literal bytes =
    if bytes_eq bytes (codes "NULL") then Some Null
    else if bytes_eq bytes (codes "TRUE") then Some (Flag true)
    else if bytes_eq bytes (codes "FALSE") then Some (Flag false)
    else option_map (λ n. Integer n) (int_of bytes)

-- the value that a word writes
abbrev pub value_of : Word → Option Literal
value_of (Plain bytes) = plain_literal bytes
value_of (Quoted bytes) = Some (Text bytes)
value_of Open = None
value_of Close = None
value_of Comma = None
