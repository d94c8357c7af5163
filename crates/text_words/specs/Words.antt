-- Words of a line.
use Rattle.std.specs.Prelude.{ℕ, zero, suc, Bool, true, ◌||◌, ◌==◌, List, [], ◌∷◌, length, take, drop, Option, Some, None, is_some, option_and_then, option_map, if◌then◌else◌}
use Rattle.std.specs.List.{position_or_len}
use Rattle.text_words.specs.declared.style.Style.{Style}
use Rattle.text_words.specs.declared.style.Style.TheVariants.{Spaced, Punctuated}
use Rattle.text_words.specs.declared.word.Word.{Word}
use Rattle.text_words.specs.declared.word.Word.TheVariants.{Plain, Quoted, Open, Close, Comma}
use Rattle.text_words.specs.Quoted.{text_at}

-- a space or a tab
abbrev pub is_blank : ℕ → Bool
is_blank byte = byte == 32 || byte == 9

-- the bytes from the first on that is no blank
abbrev pub skip_blanks : List ℕ → List ℕ
skip_blanks [] = []
skip_blanks (byte ∷ rest) = if is_blank byte then skip_blanks rest else byte ∷ rest

-- nothing, or a word that begins with `#`
abbrev pub begins_nothing : List ℕ → Bool
begins_nothing [] = true
begins_nothing (byte ∷ rest) = byte == 35

-- a line of blanks, or one whose first word begins with `#`
abbrev pub passed_over : List ℕ → Bool
passed_over line = begins_nothing (skip_blanks line)

-- the word that a byte is by itself: `(`, `)` and `,` in an expression
abbrev pub mark_of : Style → ℕ → Option Word
mark_of Spaced byte = None
mark_of Punctuated byte =
    if byte == 40 then Some Open
    else if byte == 41 then Some Close
    else if byte == 44 then Some Comma
    else None

-- a byte that belongs to no word that began before it
abbrev pub is_end : Style → ℕ → Bool
is_end style byte = is_blank byte || is_some (mark_of style byte)

-- the line ends here, or a byte follows that belongs to no word before it
abbrev pub ends_word : Style → List ℕ → Bool
ends_word style [] = true
ends_word style (byte ∷ rest) = is_end style byte

-- a word and the bytes after it
abbrev pub Read : Type 0
Read = Word × List ℕ

-- a byte that is no mark and begins no text, and the bytes after it up to the first that ends a word
abbrev pub plain_word : Style → ℕ → List ℕ → Read
plain_word style byte rest = let n = position_or_len (is_end style) rest in (Plain (byte ∷ take n rest), drop n rest)

-- what follows an opening quote: a text up to its closing quote, where a word ends
abbrev pub quoted_word : Style → List ℕ → Option Read
quoted_word style bytes = option_and_then (λ text. if ends_word style text.1 then Some (Quoted text.0, text.1) else None) (text_at bytes)

-- a word that is no text, by the mark that its first byte is
abbrev pub unquoted_word : Style → ℕ → List ℕ → Option Word → Read
unquoted_word style byte rest (Some mark) = (mark, rest)
unquoted_word style byte rest None = plain_word style byte rest

-- the word that begins at the first byte
unfoldable pub first_word : Style → List ℕ → Option Read
first_word style [] = None
first_word style (byte ∷ rest) = if byte == 34 then quoted_word style rest else Some (unquoted_word style byte rest (mark_of style byte))

-- a word before those that are read after it
abbrev pub with_word : Word → Option (List Word) → Option (List Word)
with_word word read = option_map (λ words. word ∷ words) read

-- at most n words, of which the first begins at the first byte
unfoldable pub words_within : ℕ → Style → List ℕ → Option (List Word)
words_within n style [] = Some []
words_within zero style (byte ∷ rest) = None
words_within (suc n) style (byte ∷ rest) = option_and_then (λ read. with_word read.0 (words_within n style (skip_blanks read.1))) (first_word style (byte ∷ rest))

-- The words of a line, unless a quoted text in it is bad. There are at most as many as bytes.
abbrev pub words_of : Style → List ℕ → Option (List Word)
words_of style line = words_within (length line) style (skip_blanks line)
