-- The operation that a line is, over the names and the columns of tables, after so many operations of the same text.
use Rattle.std.specs.Prelude.{◌≡◌, ◌==◌, ℕ, nat_lt, List, [], ◌∷◌, length, Option, Some, None, Result, Ok, Err, option_map, option_and_then, if◌then◌else◌, bytes_eq, codes, position, slice_get}
use Rattle.std.specs.Option.{option_map_or, ok_or}
use Rattle.std.specs.Str.{is_utf8}
use Rattle.update_model.specs.declared.limits.TheConstants.{MAX_OPS}
use Rattle.update_model.specs.declared.op.Op.{Op}
use Rattle.update_model.specs.declared.op.Op.TheVariants as op
use Rattle.update_model.specs.declared.value.Value.{Value}
use Rattle.update_model.specs.declared.value.Value.TheVariants as value
use Rattle.text_words.specs.declared.style.Style.TheVariants.{Spaced}
use Rattle.text_words.specs.declared.word.Word.{Word}
use Rattle.text_words.specs.declared.word.Word.TheVariants as word
use Rattle.text_words.specs.Words.{Read, skip_blanks, first_word}
use Rattle.schema.specs.declared.table_def.TableDef.{TableDef}
use Rattle.txn_text.specs.declared.fault.TextKind.{TextKind}
use Rattle.txn_text.specs.declared.fault.TextKind.TheVariants.{UnknownWord, UnknownTable, NotAValue, WrongNumber, TooManyOperations}
use Rattle.txn_text.specs.declared.keyword.Keyword.{Keyword}
use Rattle.txn_text.specs.declared.keyword.Keyword.TheVariants as keyword
use Rattle.txn_text.specs.declared.stop.Wrong.{Wrong}
use Rattle.txn_text.specs.declared.verb.Verb.{Verb}
use Rattle.txn_text.specs.declared.verb.Verb.TheVariants as verb
use Rattle.txn_text.specs.Values.{Written, value_for}

-- what is wrong with the word that begins here, or with the line's end
abbrev pub wrong_at : TextKind → List ℕ → Wrong
wrong_at kind start = record { kind = kind; left = length start }

-- ---- the first words of a line

-- INSERT or DELETE
abbrev pub keyword_in : Word → Option Keyword
keyword_in (word.Plain bytes) =
    if bytes_eq bytes (codes "INSERT") then Some keyword.Insert
    else if bytes_eq bytes (codes "DELETE") then Some keyword.Delete
    else None
keyword_in other = None

-- the number of the table with this name
abbrev pub table_named : List TableDef → List ℕ → Option ℕ
table_named tables name = if is_utf8 name then position (λ table. bytes_eq table.name name) tables else None

-- how many columns the table with this number has
abbrev pub column_count : List TableDef → ℕ → ℕ
column_count tables number = option_map_or (λ table. length table.columns) (slice_get tables number) 0

-- an insert into the table that a word names
abbrev pub insert_into : List TableDef → Word → Option Verb
insert_into tables (word.Plain name) = option_map (λ number. verb.Insert number (column_count tables number)) (table_named tables name)
insert_into tables other = None

-- a word's meaning beside what stands after the word
abbrev pub beside : {A : Type 0} → Option A → List ℕ → Option (A × List ℕ)
beside found after = option_map (λ a. (a, after)) found

-- the keyword that begins here
abbrev pub keyword_at : List ℕ → Option (Keyword × List ℕ)
keyword_at start = option_and_then (λ read. beside (keyword_in read.0) read.1) (first_word Spaced start)

-- the insert into the table that is named here
abbrev pub insert_at : List TableDef → List ℕ → Result (Verb × List ℕ) Wrong
insert_at tables start =
    ok_or (option_and_then (λ read. beside (insert_into tables read.0) read.1) (first_word Spaced start)) (wrong_at UnknownTable start)

-- what follows a keyword: after INSERT a table
abbrev pub verb_after : List TableDef → Keyword → List ℕ → Result (Verb × List ℕ) Wrong
verb_after tables keyword.Insert after = insert_at tables (skip_blanks after)
verb_after tables keyword.Delete after = Ok (verb.Delete, after)

-- a keyword where an operation may come, of which there are not too many
abbrev pub verb_by : List TableDef → ℕ → List ℕ → Option (Keyword × List ℕ) → Result (Verb × List ℕ) Wrong
verb_by tables before start None = Err (wrong_at UnknownWord start)
verb_by tables before start (Some read) = if nat_lt before MAX_OPS then verb_after tables read.0 read.1 else Err (wrong_at TooManyOperations start)

-- what a line does, and what stands after the words that say so
abbrev pub verb_at : List TableDef → ℕ → List ℕ → Result (Verb × List ℕ) Wrong
verb_at tables before start = verb_by tables before start (keyword_at start)

-- ---- the values of a line

-- a value, and what stands after it, or what is wrong with the word that begins here
abbrev pub Next : Type 0
Next = Result (Option (Value × List ℕ)) Wrong

abbrev pub placed : List ℕ → List ℕ → Written → Next
placed start after (Ok v) = Ok (Some (v, after))
placed start after (Err kind) = Err (wrong_at kind start)

-- what a word writes, where there is one
abbrev pub value_by : Verb → ℕ → List ℕ → Option Read → Next
value_by verb before start None = Err (wrong_at NotAValue start)
value_by verb before start (Some read) = placed start read.1 (value_for verb before read.0)

-- the value that begins here, unless the line ends here
abbrev pub value_at : Verb → ℕ → List ℕ → Next
value_at verb before [] = Ok None
value_at verb before (byte ∷ bytes) = value_by verb before (byte ∷ bytes) (first_word Spaced (byte ∷ bytes))

-- the next value in the rest of a line
abbrev pub next_value : Verb → ℕ → List ℕ → Next
next_value verb before rest = value_at verb before (skip_blanks rest)

-- In the rest of a line words write these values one after another, and then this is left of the line.
abbrev pub Write : Verb → ℕ → List ℕ → List Value → List ℕ → Type 0
Write verb before rest [] left = left ≡ rest
Write verb before rest (v ∷ vs) left = (after : List ℕ) × (next_value verb before rest ≡ Ok (Some (v, after))) × Write verb before after vs left

-- The words in the rest of a line are these values, up to its end.
pub record WriteAll (verb : Verb) (before : ℕ) (rest : List ℕ) (values : List Value) : Type 0 where
  pub left : List ℕ
  pub write : Write verb before rest values left
  pub end : next_value verb before left ≡ Ok None

-- In the rest of a line, after some values, this is the first that is wrong.
pub record WriteUpTo (verb : Verb) (before : ℕ) (rest : List ℕ) (wrong : Wrong) : Type 0 where
  pub values : List Value
  pub left : List ℕ
  pub write : Write verb before rest values left
  pub stop : next_value verb before left ≡ Err wrong

-- ---- a line

-- The operation of these values: an insert needs one for each column, and a delete the name of one row.
abbrev pub operation_of : Verb → List Value → Option Op
operation_of (verb.Insert table columns) values = if length values == columns then Some (op.Insert table values) else None
operation_of verb.Delete (value.Row row ∷ []) = Some (op.Delete row)
operation_of verb.Delete other = None

-- A line of blanks.
abbrev pub IsBlank : List ℕ → Type 0
IsBlank line = skip_blanks line ≡ []

-- What begins here, up to the end of its line, is this operation.
pub record IsOperation (tables : List TableDef) (before : ℕ) (start : List ℕ) (operation : Op) : Type 0 where
  pub verb : Verb
  pub rest : List ℕ
  pub values : List Value
  pub first : verb_at tables before start ≡ Ok (verb, rest)
  pub write : WriteAll verb before rest values
  pub whole : operation_of verb values ≡ Some operation

-- What is wrong first, from left to right, with the words from here to the line's end: one of the first words, a value,
-- or how many values there are, which is found at the line's end.
pub data GoesWrong (tables : List TableDef) (before : ℕ) (start : List ℕ) : Wrong → Type 0 where
  wrong_verb : (wrong : Wrong) → verb_at tables before start ≡ Err wrong → GoesWrong tables before start wrong
  wrong_value : (wrong : Wrong) (verb : Verb) (rest : List ℕ) → verb_at tables before start ≡ Ok (verb, rest) → WriteUpTo verb before rest wrong → GoesWrong tables before start wrong
  wrong_number : (verb : Verb) (rest : List ℕ) (values : List Value) → verb_at tables before start ≡ Ok (verb, rest) → WriteAll verb before rest values → operation_of verb values ≡ None
      → GoesWrong tables before start (wrong_at WrongNumber [])
