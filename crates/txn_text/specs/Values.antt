-- What the words of a line write as values. The operation that the line is comes after so many others.
use Rattle.std.specs.Prelude.{◌==◌, ℕ, ◌-◌, Bool, ◌&&◌, ◌||◌, nat_lt, nat_le, List, [], ◌∷◌, length, Option, Some, None, Result, Ok, Err, if◌then◌else◌, bytes_eq, codes}
use Rattle.std.specs.Str.{is_utf8}
use Rattle.std.specs.Str.Parse.{digits_value}
use Rattle.update_model.specs.declared.limits.TheConstants.{MAX_TEXT}
use Rattle.update_model.specs.declared.value.Value.{Value}
use Rattle.update_model.specs.declared.value.Value.TheVariants as value
use Rattle.text_words.specs.declared.literal.Literal.{Literal}
use Rattle.text_words.specs.declared.literal.Literal.TheVariants as literal
use Rattle.text_words.specs.declared.word.Word.{Word}
use Rattle.text_words.specs.declared.word.Word.TheVariants as word
use Rattle.text_words.specs.Hexadecimal.{row_of}
use Rattle.text_words.specs.Integers.{is_positive_numeral}
use Rattle.text_words.specs.Literals.{plain_literal}
use Rattle.txn_text.specs.declared.fault.TextKind.{TextKind}
use Rattle.txn_text.specs.declared.fault.TextKind.TheVariants.{NotAValue, TextTooLong, LaterLine, NotUtf8}
use Rattle.txn_text.specs.declared.verb.Verb.{Verb}
use Rattle.txn_text.specs.declared.verb.Verb.TheVariants as verb

-- a value, or what is wrong with the word
abbrev pub Written : Type 0
Written = Result Value TextKind

-- a text in quotes: at most 1,024 bytes of UTF-8
abbrev pub text_value : List ℕ → Written
text_value bytes =
    if nat_lt MAX_TEXT (length bytes) then Err TextTooLong
    else if is_utf8 bytes then Ok (value.Text bytes)
    else Err NotUtf8

-- the row that the k-th operation inserts, counted from 1, where that is an earlier one
abbrev pub own_row : ℕ → ℕ → Written
own_row before k = if nat_lt 0 k && nat_le k before then Ok (value.Own (k - 1)) else Err LaterLine

-- a number of whatever size: `0`, or digits of which the first is not 0
abbrev pub is_numeral : List ℕ → Bool
is_numeral digits = bytes_eq digits (codes "0") || is_positive_numeral digits

-- what stands after `$`: the number of an operation
abbrev pub own_value : ℕ → List ℕ → Written
own_value before digits = if is_numeral digits then own_row before (digits_value 10 digits) else Err NotAValue

-- a value that is written without quotes
abbrev pub literal_value : Option Literal → Written
literal_value None = Err NotAValue
literal_value (Some literal.Null) = Ok value.Null
literal_value (Some (literal.Integer n)) = Ok (value.Int n)
literal_value (Some (literal.Text bytes)) = text_value bytes
literal_value (Some (literal.Flag flag)) = Ok (value.Flag flag)

-- the name of a row, or else what stands for it
abbrev pub row_or : Option (List ℕ × ℕ) → Written → Written
row_or None otherwise = otherwise
row_or (Some row) otherwise = Ok (value.Row (record { update = record { 0 = row.0 }; index = row.1 }))

-- a word that does not begin with `$`
abbrev pub unmarked_value : List ℕ → Written
unmarked_value bytes = row_or (row_of bytes) (literal_value (plain_literal bytes))

-- a word without quotes; `$` is the byte 36
abbrev pub plain_value : ℕ → List ℕ → Written
plain_value before [] = unmarked_value []
plain_value before (byte ∷ bytes) = if byte == 36 then own_value before bytes else unmarked_value (byte ∷ bytes)

-- the value that a word writes in an insert
abbrev pub value_in : ℕ → Word → Written
value_in before (word.Plain bytes) = plain_value before bytes
value_in before (word.Quoted bytes) = text_value bytes
value_in before word.Open = Err NotAValue
value_in before word.Close = Err NotAValue
value_in before word.Comma = Err NotAValue

-- the name of a row that a word writes in a delete
abbrev pub row_in : Word → Written
row_in (word.Plain bytes) = row_or (row_of bytes) (Err NotAValue)
row_in (word.Quoted bytes) = Err NotAValue
row_in word.Open = Err NotAValue
row_in word.Close = Err NotAValue
row_in word.Comma = Err NotAValue

-- what a word writes after these first words of a line
abbrev pub value_for : Verb → ℕ → Word → Written
value_for (verb.Insert table columns) before w = value_in before w
value_for verb.Delete before w = row_in w
