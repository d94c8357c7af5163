-- The words of a line by rules, apart from how a line is read.
use Rattle.std.specs.Prelude.{◌≡◌, ◌≢◌, ℕ, ◌≤◌, true, false, List, [], ◌∷◌, ◌++◌, Some}
use Rattle.std.specs.List.{AllByRecursion}
use Rattle.text_words.specs.declared.style.Style.{Style}
use Rattle.text_words.specs.declared.word.Word.{Word}
use Rattle.text_words.specs.declared.word.Word.TheVariants.{Plain, Quoted, Open, Close, Comma}
use Rattle.text_words.specs.Quoted.{byte_of}
use Rattle.text_words.specs.Words.{is_blank, is_end, ends_word, mark_of}

-- What spells one byte of a quoted text: the byte itself from 32 on, but for a quote and a backslash, or an escape.
pub data IsPiece : List ℕ → ℕ → Type 0 where
  raw : (byte : ℕ) → 32 ≤ byte → byte ≢ 34 → byte ≢ 92 → IsPiece (byte ∷ []) byte
  escaped_quote : IsPiece (92 ∷ 34 ∷ []) 34
  escaped_backslash : IsPiece (92 ∷ 92 ∷ []) 92
  escaped_newline : IsPiece (92 ∷ 110 ∷ []) 10
  escaped_tab : IsPiece (92 ∷ 116 ∷ []) 9
  escaped_digits : (high low byte : ℕ) → byte_of high low ≡ Some byte → IsPiece (92 ∷ 120 ∷ high ∷ low ∷ []) byte

-- What stands between the quotes of a text: what spells each of its bytes in turn.
pub data IsQuoted : List ℕ → List ℕ → Type 0 where
  no_byte : IsQuoted [] []
  one_byte : (piece rest text : List ℕ) (byte : ℕ) → IsPiece piece byte → IsQuoted rest text → IsQuoted (piece ++ rest) (byte ∷ text)

-- What spells a word: a text in quotes, bytes that are neither blanks nor marks and do not begin with a quote, or a mark.
pub data IsWord : Style → List ℕ → Word → Type 0 where
  a_text : (style : Style) (spelling text : List ℕ) → IsQuoted spelling text → IsWord style (34 ∷ (spelling ++ (34 ∷ []))) (Quoted text)
  bytes : (style : Style) (first : ℕ) (more : List ℕ) → first ≢ 34 → is_end style first ≡ false → AllByRecursion (λ byte. is_end style byte ≡ false) more
      → IsWord style (first ∷ more) (Plain (first ∷ more))
  a_mark : (style : Style) (byte : ℕ) (word : Word) → mark_of style byte ≡ Some word → IsWord style (byte ∷ []) word

-- What may follow a word: anything after a mark, else the line's end, a blank or a mark.
abbrev pub MayFollow : Style → Word → List ℕ → Type 0
MayFollow style (Plain text) rest = ends_word style rest ≡ true
MayFollow style (Quoted text) rest = ends_word style rest ≡ true
MayFollow style Open rest = Unit {0}
MayFollow style Close rest = Unit {0}
MayFollow style Comma rest = Unit {0}

abbrev pub AreBlanks : List ℕ → Type 0
AreBlanks line = AllByRecursion (λ byte. is_blank byte ≡ true) line

-- The words of a line: none in blanks, and else blanks, a word, what may follow it, and the words of that.
pub data AreWords : Style → List ℕ → List Word → Type 0 where
  no_word : (style : Style) (line : List ℕ) → AreBlanks line → AreWords style line []
  one_word : (style : Style) (blanks spelling rest : List ℕ) (word : Word) (words : List Word) → AreBlanks blanks → IsWord style spelling word
      → MayFollow style word rest → AreWords style rest words → AreWords style (blanks ++ (spelling ++ rest)) (word ∷ words)
