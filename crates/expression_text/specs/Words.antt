-- What each word of an expression is to the grammar.
use Rattle.std.specs.Prelude.{ℕ, Bool, true, false, ◌||◌, ◌==◌, List, [], ◌∷◌, Option, Some, None, unwrap_or, option_map, if◌then◌else◌, bytes_eq, codes}
use Rattle.std.specs.Char.{is_ascii_digit}
use Rattle.row_check.specs.declared.cmp.Cmp.{Cmp}
use Rattle.row_check.specs.declared.cmp.Cmp.TheVariants as cmp
use Rattle.text_words.specs.Integers.{int_of}
use Rattle.text_words.specs.declared.word.Word.{Word}
use Rattle.text_words.specs.declared.word.Word.TheVariants as word
use Rattle.expression_text.specs.declared.token.Token.{Token}
use Rattle.expression_text.specs.declared.token.Token.TheVariants as token

-- a keyword or a flag
abbrev pub keyword_of : List ℕ → Option Token
keyword_of bytes =
    if bytes_eq bytes (codes "AND") then Some token.And
    else if bytes_eq bytes (codes "OR") then Some token.Or
    else if bytes_eq bytes (codes "NOT") then Some token.Not
    else if bytes_eq bytes (codes "IS") then Some token.Is
    else if bytes_eq bytes (codes "NULL") then Some token.Null
    else if bytes_eq bytes (codes "NATIVE") then Some token.Native
    else if bytes_eq bytes (codes "LEN") then Some token.Len
    else if bytes_eq bytes (codes "TRUE") then Some (token.Flag true)
    else if bytes_eq bytes (codes "FALSE") then Some (token.Flag false)
    else None

-- a sign of comparison
abbrev pub sign_of : List ℕ → Option Cmp
sign_of bytes =
    if bytes_eq bytes (codes "=") then Some cmp.Eq
    else if bytes_eq bytes (codes "!=") then Some cmp.Ne
    else if bytes_eq bytes (codes "<") then Some cmp.Lt
    else if bytes_eq bytes (codes "<=") then Some cmp.Le
    else if bytes_eq bytes (codes ">") then Some cmp.Gt
    else if bytes_eq bytes (codes ">=") then Some cmp.Ge
    else None

-- the first byte is a digit, `-` or `$`
abbrev pub begins_as_value : List ℕ → Bool
begins_as_value [] = false
begins_as_value (byte ∷ rest) = is_ascii_digit byte || byte == 45 || byte == 36

-- a word that is no integer: one that begins as a value does is bad, and any other stands for a column
abbrev pub column_or_bad : List ℕ → Token
column_or_bad bytes = if begins_as_value bytes then token.Bad else token.Column bytes

-- a word without quotes
abbrev pub plain_token : List ℕ → Token
plain_token bytes =
    unwrap_or (keyword_of bytes)
    (unwrap_or (option_map (λ sign. token.Sign sign) (sign_of bytes))
    (unwrap_or (option_map (λ n. token.Integer n) (int_of bytes)) (column_or_bad bytes)))

-- what a word is
abbrev pub token_of : Word → Token
token_of (word.Plain bytes) = plain_token bytes
token_of (word.Quoted bytes) = token.Text bytes
token_of word.Open = token.Open
token_of word.Close = token.Close
token_of word.Comma = token.Comma
