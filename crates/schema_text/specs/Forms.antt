-- The forms of lines. `CHECK` is told apart first, since the words of an expression need no blanks around `(`, `)` and
-- `,`; the words of every other line stand apart by blanks alone.
use Rattle.std.specs.Prelude.{◌≡◌, ℕ, ◌+◌, ◌==◌, ℤ, Bool, true, false, ◌&&◌, List, [], ◌∷◌, map, take, drop, position, All, Option, Some, None, option_map, option_and_then, if◌then◌else◌, bytes_eq, codes, IsUtf8}
use Rattle.std.specs.Int.{w32, from_be_bytes}
use Rattle.update_model.specs.declared.author_key.AuthorKey.{AuthorKey}
use Rattle.row_check.specs.declared.cmp.Cmp.{Cmp}
use Rattle.row_check.specs.declared.cmp.Cmp.TheVariants as cmp
use Rattle.text_words.specs.declared.literal.Literal.TheVariants as literal
use Rattle.text_words.specs.declared.style.Style.TheVariants.{Spaced, Punctuated}
use Rattle.text_words.specs.declared.word.Word.{Word}
use Rattle.text_words.specs.declared.word.Word.TheVariants as word
use Rattle.text_words.specs.Words.{skip_blanks, first_word, words_of}
use Rattle.text_words.specs.Literals.{value_of}
use Rattle.text_words.specs.Integers.{int_of}
use Rattle.text_words.specs.Hexadecimal.{block_of_hex, row_of}
use Rattle.expression_text.specs.declared.token.Token.{Token}
use Rattle.expression_text.specs.declared.token.Token.TheVariants as token
use Rattle.expression_text.specs.Words.{token_of}
use Rattle.expression_text.specs.Grammar.{IsExpression}
use Rattle.schema.specs.declared.action.Action.{Action}
use Rattle.schema.specs.declared.action.Action.TheVariants as action
use Rattle.schema_text.specs.declared.form.Form.{Form}
use Rattle.schema_text.specs.declared.form.Form.TheVariants as form
use Rattle.schema_text.specs.declared.form.SampleValue.{SampleValue}
use Rattle.schema_text.specs.declared.form.SampleValue.TheVariants as sample
use Rattle.schema_text.specs.declared.form.PlainKind.{PlainKind}
use Rattle.schema_text.specs.declared.form.PlainKind.TheVariants as plain
use Rattle.schema_text.specs.declared.keyword.Keyword.{Keyword}
use Rattle.schema_text.specs.declared.keyword.Keyword.TheVariants as keyword

-- a choice by what there is
abbrev pub option_cases : {A B : Type 0} → Option A → (A → B) → B → B
option_cases None f b = b
option_cases (Some a) f b = f a

-- whether a word is this one
abbrev pub is_word : List ℕ → Word → Bool
is_word text (word.Plain bytes) = bytes_eq bytes text
is_word text other = false

-- A word where a name stands. A quoted text keeps its opening quote (the byte 34), so that it is no name.
abbrev pub spelled : Word → List ℕ
spelled (word.Plain bytes) = bytes
spelled (word.Quoted bytes) = 34 ∷ bytes
spelled word.Open = 40 ∷ []
spelled word.Close = 41 ∷ []
spelled word.Comma = 44 ∷ []

-- the integer that a word writes
abbrev pub number_in : Word → Option ℤ
number_in (word.Plain bytes) = int_of bytes
number_in other = None

-- the sign of a comparison
abbrev pub sign_in : Word → Option Cmp
sign_in w =
    if is_word (codes "=") w then Some cmp.Eq
    else if is_word (codes "!=") w then Some cmp.Ne
    else if is_word (codes "<") w then Some cmp.Lt
    else if is_word (codes "<=") w then Some cmp.Le
    else if is_word (codes ">") w then Some cmp.Gt
    else if is_word (codes ">=") w then Some cmp.Ge
    else None

-- what becomes of a row when the one that it refers to goes
abbrev pub action_in : Word → Option Action
action_in w =
    if is_word (codes "RESTRICT") w then Some action.Restrict
    else if is_word (codes "CASCADE") w then Some action.Cascade
    else if is_word (codes "SETNULL") w then Some action.SetNull
    else None

-- what stands at the end of a column's line: nothing, or NULL
abbrev pub null_at_end : List Word → Option Bool
null_at_end [] = Some false
null_at_end (w ∷ []) = if is_word (codes "NULL") w then Some true else None
null_at_end (w ∷ v ∷ ws) = None

-- the key whose 56 bytes these are: the LMS type, the LM-OTS type, 16 bytes that name the key, and the root
abbrev pub key_in : List ℕ → AuthorKey
key_in bytes = record {
  lms = from_be_bytes w32 (take 4 bytes);
  ots = from_be_bytes w32 (take 4 (drop 4 bytes));
  ident = take 16 (drop 8 bytes);
  root = take 32 (drop 24 bytes);
}

abbrev pub database_form : List Word → Option Form
database_form [] = None
database_form (name ∷ []) = Some (form.Database (spelled name))
database_form (name ∷ w ∷ ws) = None

-- the author whose key these digits write
abbrev pub author_in : List ℕ → Option Form
author_in digits = option_map (λ bytes. form.Author (key_in bytes)) (block_of_hex 56 digits)

-- 112 lower-case hexadecimal digits
abbrev pub author_form : List Word → Option Form
author_form [] = None
author_form (key ∷ []) = author_in (spelled key)
author_form (key ∷ w ∷ ws) = None

-- nothing, DELETABLE, or DELETABLE OWNED
abbrev pub rights_in : List Word → Option (Bool × Bool)
rights_in [] = Some (false, false)
rights_in (w ∷ []) = if is_word (codes "DELETABLE") w then Some (true, false) else None
rights_in (w ∷ v ∷ []) = if is_word (codes "DELETABLE") w && is_word (codes "OWNED") v then Some (true, true) else None
rights_in (w ∷ v ∷ u ∷ ws) = None

abbrev pub table_form : List Word → Option Form
table_form [] = None
table_form (name ∷ rights) = option_map (λ r. form.Table (spelled name) r.0 r.1) (rights_in rights)

-- two bounds, and nothing or NULL
abbrev pub bounds_in : List Word → Option (ℤ × ℤ × Bool)
bounds_in [] = None
bounds_in (lo ∷ []) = None
bounds_in (lo ∷ hi ∷ end) = option_and_then (λ l. option_and_then (λ h. option_map (λ null. (l, h, null)) (null_at_end end)) (number_in hi)) (number_in lo)

-- the kind of a column, and whether it has NULL
abbrev pub kind_in : Word → List Word → Option (PlainKind × Bool)
kind_in kind end =
    if is_word (codes "INT") kind then option_map (λ b. (plain.Int b.0 b.1, b.2)) (bounds_in end)
    else if is_word (codes "TEXT") kind then option_map (λ b. (plain.Text b.0 b.1, b.2)) (bounds_in end)
    else if is_word (codes "FLAG") kind then option_map (λ null. (plain.Flag, null)) (null_at_end end)
    else None

abbrev pub column_form : List Word → Option Form
column_form [] = None
column_form (name ∷ []) = None
column_form (name ∷ kind ∷ end) = option_map (λ k. form.Column (spelled name) k.0 k.1) (kind_in kind end)

abbrev pub ref_form : List Word → Option Form
ref_form [] = None
ref_form (name ∷ []) = None
ref_form (name ∷ table ∷ []) = None
ref_form (name ∷ table ∷ act ∷ end) =
    option_and_then (λ a. option_map (λ null. form.Ref (spelled name) (spelled table) a null) (null_at_end end)) (action_in act)

-- `ref.column`, parted at its first dot (the byte 46)
abbrev pub path_in : List ℕ → Option (List ℕ × List ℕ)
path_in path = option_map (λ n. (take n path, drop (n + 1) path)) (position (λ byte. byte == 46) path)

abbrev pub match_form : List Word → Option Form
match_form [] = None
match_form (column ∷ []) = None
match_form (column ∷ sign ∷ []) = None
match_form (column ∷ sign ∷ path ∷ []) =
    option_and_then (λ c. option_map (λ p. form.Match (spelled column) c p.0 p.1) (path_in (spelled path))) (sign_in sign)
match_form (column ∷ sign ∷ path ∷ w ∷ ws) = None

-- nothing, or KEEP LEAST
abbrev pub keeps_in : List Word → Option Bool
keeps_in [] = Some false
keeps_in (w ∷ []) = None
keeps_in (w ∷ v ∷ []) = if is_word (codes "KEEP") w && is_word (codes "LEAST") v then Some true else None
keeps_in (w ∷ v ∷ u ∷ ws) = None

abbrev pub unique_form : List Word → Option Form
unique_form [] = None
unique_form (column ∷ end) = option_map (λ keeps. form.Unique (spelled column) keeps) (keeps_in end)

abbrev pub at_most_form : List Word → Option Form
at_most_form [] = None
at_most_form (count ∷ []) = option_map (λ k. form.AtMost k) (number_in count)
at_most_form (count ∷ w ∷ ws) = None

-- the name of a row that a word writes
abbrev pub row_in : Word → Option SampleValue
row_in (word.Plain bytes) = option_map (λ row. sample.Row (record { update = record { 0 = row.0 }; index = row.1 })) (row_of bytes)
row_in other = None

-- the value that a word writes, names of rows included
abbrev pub value_in : Word → Option SampleValue
value_in w = option_cases (value_of w) (λ literal. Some (sample.Literal literal)) (row_in w)

-- the values that words write, where each writes one
abbrev pub values_of : List Word → Option (List SampleValue)
values_of [] = Some []
values_of (w ∷ ws) = option_and_then (λ value. option_map (λ values. value ∷ values) (values_of ws)) (value_in w)

abbrev pub sample_form : List Word → Option Form
sample_form words = option_map (λ values. form.Sample values) (values_of words)

-- which form a line has, by its first word
abbrev pub keyword_of : List ℕ → Option Keyword
keyword_of bytes =
    if bytes_eq bytes (codes "DATABASE") then Some keyword.Database
    else if bytes_eq bytes (codes "AUTHOR") then Some keyword.Author
    else if bytes_eq bytes (codes "TABLE") then Some keyword.Table
    else if bytes_eq bytes (codes "COLUMN") then Some keyword.Column
    else if bytes_eq bytes (codes "REF") then Some keyword.Ref
    else if bytes_eq bytes (codes "MATCH") then Some keyword.Match
    else if bytes_eq bytes (codes "UNIQUE") then Some keyword.Unique
    else if bytes_eq bytes (codes "ATMOST") then Some keyword.AtMost
    else if bytes_eq bytes (codes "SAMPLE") then Some keyword.Sample
    else None

abbrev pub keyword_in : Word → Option Keyword
keyword_in (word.Plain bytes) = keyword_of bytes
keyword_in other = None

-- the form that a keyword and the words after it are
abbrev pub form_with : Keyword → List Word → Option Form
form_with keyword.Database words = database_form words
form_with keyword.Author words = author_form words
form_with keyword.Table words = table_form words
form_with keyword.Column words = column_form words
form_with keyword.Ref words = ref_form words
form_with keyword.Match words = match_form words
form_with keyword.Unique words = unique_form words
form_with keyword.AtMost words = at_most_form words
form_with keyword.Sample words = sample_form words

-- the form of a line that is no CHECK, by its first word and the bytes after it
unfoldable pub plain_form : List ℕ → Option Form
plain_form start = option_and_then (λ read. option_and_then (λ k. option_and_then (form_with k) (words_of Spaced read.1)) (keyword_in read.0)) (first_word Spaced start)

-- what stands after the word CHECK, where a line begins with it
unfoldable pub after_check : List ℕ → Option (List ℕ)
after_check start = option_and_then (λ read. if is_word (codes "CHECK") read.0 then Some read.1 else None) (first_word Punctuated start)

-- the tokens of an expression
unfoldable pub check_form : List ℕ → Option Form
check_form rest = option_map (λ words. form.Check (map token_of words)) (words_of Punctuated rest)

-- the form of a line that begins with a word
unfoldable pub form_at : List ℕ → Option Form
form_at start = option_cases (after_check start) check_form (plain_form start)

-- a text has bytes of UTF-8
abbrev pub HasUtf8 : SampleValue → Type 0
HasUtf8 (sample.Literal (literal.Text bytes)) = IsUtf8 bytes
HasUtf8 other = Unit {0}

abbrev pub HasUtf8Text : Token → Type 0
HasUtf8Text (token.Text bytes) = IsUtf8 bytes
HasUtf8Text other = Unit {0}

-- What no look at single words tells: that tokens are an expression, and that texts are UTF-8.
abbrev pub IsWhole : Form → Type 0
IsWhole (form.Check tokens) = IsExpression tokens × All HasUtf8Text tokens
IsWhole (form.Sample values) = All HasUtf8 values
IsWhole other = Unit {0}

-- A line of UTF-8 that has this form.
pub record HasForm (line : List ℕ) (form : Form) : Type 0 where
  pub utf8 : IsUtf8 line
  pub words : form_at (skip_blanks line) ≡ Some form
  pub whole : IsWhole form

-- What stands for the form of a line of UTF-8: it is that form, or there is none.
abbrev pub IsForm : List ℕ → Option Form → Type 0
IsForm line (Some form) = (form_at (skip_blanks line) ≡ Some form) × IsWhole form
IsForm line None = (form : Form) → form_at (skip_blanks line) ≡ Some form → IsWhole form → ⊥
