-- The name of a database, as the text of its schema gives it.
use Rattle.std.specs.Prelude.{ℕ, List, [], ◌∷◌, if◌then◌else◌, Option, Some, None, unwrap_or, codes, bytes_eq}
use Rattle.text_words.specs.declared.word.Word.{Word}
use Rattle.text_words.specs.declared.word.Word.TheVariants.{Plain, Quoted, Open, Close, Comma}
use Rattle.text_words.specs.declared.style.Style.TheVariants.{Spaced}
use Rattle.text_words.specs.Lines.{lines_of}
use Rattle.text_words.specs.Words.{words_of}

-- the name that a word is
abbrev pub plain_name : Word → Option (List ℕ)
plain_name (Plain bytes) = Some bytes
plain_name (Quoted bytes) = None
plain_name Open = None
plain_name Close = None
plain_name Comma = None

-- the name that these words give, the first of which is `DATABASE`
abbrev pub name_behind : List ℕ → List Word → Option (List ℕ)
name_behind keyword [] = None
name_behind keyword (word ∷ words) = if bytes_eq keyword (codes "DATABASE") then plain_name word else None

-- the name that the words of a line give
abbrev pub name_in_words : List Word → Option (List ℕ)
name_in_words [] = None
name_in_words (Plain keyword ∷ words) = name_behind keyword words
name_in_words (Quoted bytes ∷ words) = None
name_in_words (Open ∷ words) = None
name_in_words (Close ∷ words) = None
name_in_words (Comma ∷ words) = None

-- the name that a line gives
abbrev pub name_in_line : Option (List Word) → Option (List ℕ)
name_in_line None = None
name_in_line (Some words) = name_in_words words

-- this name, or else another
abbrev pub or_name : Option (List ℕ) → List ℕ → List ℕ
or_name (Some name) other = name
or_name None other = other

-- the name that the first of these lines gives that gives one
abbrev pub name_in_lines : List (List ℕ) → List ℕ
name_in_lines [] = []
name_in_lines (line ∷ lines) = or_name (name_in_line (words_of Spaced line)) (name_in_lines lines)

-- the name that a text gives
abbrev pub database_name : List ℕ → List ℕ
database_name text = name_in_lines (lines_of text)
