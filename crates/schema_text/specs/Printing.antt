-- Forms as lines: the first word, and each other one behind a blank.
use Rattle.std.specs.Prelude.{◌≡◌, ℕ, ◌^◌, ◌<◌, ◌==◌, true, false, Bool, List, [], ◌∷◌, ◌++◌, map, Some, codes, FitsSigned}
use Rattle.std.specs.Fmt.{decimal, signed_decimal}
use Rattle.std.specs.Int.{w32, w64, to_be_bytes}
use Rattle.std.specs.List.{AllByRecursion}
use Rattle.hex.specs.Hex.{encode_lower}
use Rattle.update_model.specs.Block.{IsBlock}
use Rattle.update_model.specs.Rows.{IsRowName}
use Rattle.update_model.specs.declared.author_key.AuthorKey.{AuthorKey}
use Rattle.update_model.specs.declared.row_name.RowName.{RowName}
use Rattle.row_check.specs.declared.cmp.Cmp.{Cmp}
use Rattle.row_check.specs.declared.cmp.Cmp.TheVariants as cmp
use Rattle.text_words.specs.Printing.{literal_text, quoted, IsLiteral}
use Rattle.text_words.specs.Words.{words_of}
use Rattle.text_words.specs.declared.literal.Literal.TheVariants as literal
use Rattle.text_words.specs.declared.style.Style.{Style}
use Rattle.text_words.specs.declared.style.Style.TheVariants.{Spaced, Punctuated}
use Rattle.text_words.specs.declared.word.Word.{Word}
use Rattle.text_words.specs.declared.word.Word.TheVariants as word
use Rattle.expression_text.specs.Words.{plain_token}
use Rattle.expression_text.specs.declared.token.Token.{Token}
use Rattle.expression_text.specs.declared.token.Token.TheVariants as token
use Rattle.schema.specs.declared.action.Action.{Action}
use Rattle.schema.specs.declared.action.Action.TheVariants as action
use Rattle.schema_text.specs.declared.form.Form.{Form}
use Rattle.schema_text.specs.declared.form.Form.TheVariants as form
use Rattle.schema_text.specs.declared.form.SampleValue.{SampleValue}
use Rattle.schema_text.specs.declared.form.SampleValue.TheVariants as sample
use Rattle.schema_text.specs.declared.form.PlainKind.{PlainKind}
use Rattle.schema_text.specs.declared.form.PlainKind.TheVariants as plain

-- ---- words

-- words, each behind a blank (the byte 32)
abbrev pub behind_blanks : List (List ℕ) → List ℕ
behind_blanks [] = []
behind_blanks (text ∷ texts) = 32 ∷ (text ++ behind_blanks texts)

-- nothing, or NULL
abbrev pub null_texts : Bool → List (List ℕ)
null_texts true = codes "NULL" ∷ []
null_texts false = []

-- nothing, DELETABLE, or DELETABLE OWNED
abbrev pub rights_texts : Bool → Bool → List (List ℕ)
rights_texts true true = codes "DELETABLE" ∷ codes "OWNED" ∷ []
rights_texts true false = codes "DELETABLE" ∷ []
rights_texts false owned = []

-- the kind of a column and its bounds
abbrev pub kind_texts : PlainKind → List (List ℕ)
kind_texts (plain.Int lo hi) = codes "INT" ∷ signed_decimal lo ∷ signed_decimal hi ∷ []
kind_texts (plain.Text lo hi) = codes "TEXT" ∷ signed_decimal lo ∷ signed_decimal hi ∷ []
kind_texts plain.Flag = codes "FLAG" ∷ []

abbrev pub action_text : Action → List ℕ
action_text action.Restrict = codes "RESTRICT"
action_text action.Cascade = codes "CASCADE"
action_text action.SetNull = codes "SETNULL"

abbrev pub sign_text : Cmp → List ℕ
sign_text cmp.Eq = codes "="
sign_text cmp.Ne = codes "!="
sign_text cmp.Lt = codes "<"
sign_text cmp.Le = codes "<="
sign_text cmp.Gt = codes ">"
sign_text cmp.Ge = codes ">="

-- the bytes of a key: the LMS type, the LM-OTS type, the 16 bytes that name the key, and the root
abbrev pub key_bytes : AuthorKey → List ℕ
key_bytes key = to_be_bytes w32 key.lms ++ (to_be_bytes w32 key.ots ++ (key.ident ++ key.root))

-- the name of a row: the id of its update, a colon (the byte 58), and the number of its operation
abbrev pub row_text : RowName → List ℕ
row_text row = encode_lower row.update.0 ++ 58 ∷ decimal row.index

abbrev pub sample_text : SampleValue → List ℕ
sample_text (sample.Literal value) = literal_text value
sample_text (sample.Row row) = row_text row

abbrev pub token_text : Token → List ℕ
token_text (token.Column name) = name
token_text (token.Integer n) = signed_decimal n
token_text (token.Text bytes) = quoted bytes
token_text (token.Flag flag) = literal_text (literal.Flag flag)
token_text (token.Sign sign) = sign_text sign
token_text token.And = codes "AND"
token_text token.Or = codes "OR"
token_text token.Not = codes "NOT"
token_text token.Is = codes "IS"
token_text token.Null = codes "NULL"
token_text token.Native = codes "NATIVE"
token_text token.Len = codes "LEN"
token_text token.Open = codes "("
token_text token.Close = codes ")"
token_text token.Comma = codes ","
token_text token.Bad = []

-- nothing, or KEEP LEAST
abbrev pub keeps_texts : Bool → List (List ℕ)
keeps_texts false = []
keeps_texts true = codes "KEEP" ∷ codes "LEAST" ∷ []

-- ---- lines

-- a form as a line
abbrev pub form_text : Form → List ℕ
form_text (form.Database name) = codes "DATABASE" ++ behind_blanks (name ∷ [])
form_text (form.Author key) = codes "AUTHOR" ++ behind_blanks (encode_lower (key_bytes key) ∷ [])
form_text (form.Table name deletable owned) = codes "TABLE" ++ behind_blanks (name ∷ rights_texts deletable owned)
form_text (form.Column name kind null) = codes "COLUMN" ++ behind_blanks (name ∷ (kind_texts kind ++ null_texts null))
form_text (form.Ref name table act null) = codes "REF" ++ behind_blanks (name ∷ table ∷ action_text act ∷ null_texts null)
form_text (form.Check tokens) = codes "CHECK" ++ behind_blanks (map token_text tokens)
form_text (form.Match column sign reference target) = codes "MATCH" ++ behind_blanks (column ∷ sign_text sign ∷ (reference ++ 46 ∷ target) ∷ [])
form_text (form.Unique column keeps) = codes "UNIQUE" ++ behind_blanks (column ∷ keeps_texts keeps)
form_text (form.AtMost count) = codes "ATMOST" ++ behind_blanks (signed_decimal count ∷ [])
form_text (form.Sample values) = codes "SAMPLE" ++ behind_blanks (map sample_text values)

-- ---- forms that have a line

-- A line of these bytes alone is this one word.
abbrev pub IsOneWord : Style → List ℕ → Word → Type 0
IsOneWord style text w = words_of style text ≡ Some (w ∷ [])

-- The bytes are a word as they stand, as those of every name are.
abbrev pub IsBare : Style → List ℕ → Type 0
IsBare style text = IsOneWord style text (word.Plain text)

-- The parts of a key have their sizes, as they have by their types.
pub record HasSizes (key : AuthorKey) : Type 0 where
  pub lms : key.lms < 2 ^ 32
  pub ots : key.ots < 2 ^ 32
  pub ident : IsBlock 16 key.ident
  pub root : IsBlock 32 key.root

-- Bounds are integers of 64 bits, as they are by their type.
abbrev pub HasBounds : PlainKind → Type 0
HasBounds (plain.Int lo hi) = FitsSigned w64 lo × FitsSigned w64 hi
HasBounds (plain.Text lo hi) = FitsSigned w64 lo × FitsSigned w64 hi
HasBounds plain.Flag = Unit {0}

-- What stands for a column is a word that is nothing else to an expression; and no word is a bad one.
abbrev pub IsTokenOfText : Token → Type 0
IsTokenOfText (token.Column name) = IsBare Punctuated name × (plain_token name ≡ token.Column name)
IsTokenOfText (token.Integer n) = FitsSigned w64 n
IsTokenOfText token.Bad = ⊥
IsTokenOfText other = Unit {0}

-- An integer has 64 bits, and the name of a row its sizes, as they have by their types.
abbrev pub IsValueOfText : SampleValue → Type 0
IsValueOfText (sample.Literal value) = IsLiteral value
IsValueOfText (sample.Row row) = IsRowName row

-- A dotted name is parted at its first dot (the byte 46), so that the first part has none.
abbrev pub HasNoDot : List ℕ → Type 0
HasNoDot bytes = AllByRecursion (λ byte. (byte == 46) ≡ false) bytes

-- The form of a line: its names are bare, and OWNED stands only behind DELETABLE.
abbrev pub HasLine : Form → Type 0
HasLine (form.Database name) = IsBare Spaced name
HasLine (form.Author key) = HasSizes key
HasLine (form.Table name true owned) = IsBare Spaced name
HasLine (form.Table name false owned) = IsBare Spaced name × (owned ≡ false)
HasLine (form.Column name kind null) = IsBare Spaced name × HasBounds kind
HasLine (form.Ref name table act null) = IsBare Spaced name × IsBare Spaced table
HasLine (form.Check tokens) = AllByRecursion IsTokenOfText tokens
HasLine (form.Match column sign reference target) = IsBare Spaced column × IsBare Spaced (reference ++ 46 ∷ target) × HasNoDot reference
HasLine (form.Unique column keeps) = IsBare Spaced column
HasLine (form.AtMost count) = FitsSigned w64 count
HasLine (form.Sample values) = AllByRecursion IsValueOfText values
