-- The words of a text, as an expression sees them, with their places.
use Rattle.std.specs.Prelude.{ℕ, Bool, zero, suc, ◌+◌, ◌-◌, ◌&&◌, nat_le, List, [], ◌∷◌, ◌++◌, length, Option, Some, None, if◌then◌else◌}
use Rattle.std.specs.Str.{is_utf8}
use Rattle.update_model.specs.declared.limits.TheConstants.{MAX_TEXT}
use Rattle.text_words.specs.declared.style.Style.TheVariants.{Punctuated}
use Rattle.text_words.specs.Lines.{lines_of, is_lf}
use Rattle.text_words.specs.Words.{Read, skip_blanks, first_word}
use Rattle.expression_text.specs.declared.token.Token.{Token}
use Rattle.expression_text.specs.declared.token.Token.TheVariants as token
use Rattle.expression_text.specs.Words.{token_of}
use Rattle.query.specs.declared.pieces.Pieces.{Pieces}
use Rattle.query.specs.declared.stop.Spot.{Spot}

-- words, and their places
abbrev pub Placed : Type 0
Placed = List Token × List Spot

abbrev pub placed_in : Pieces → Placed
placed_in pieces = (pieces.tokens.items, pieces.spots.items)

abbrev pub nothing : Placed
nothing = ([], [])

abbrev pub with_first : Token → Spot → Placed → Placed
with_first word spot rest = (word ∷ rest.0, spot ∷ rest.1)

abbrev pub joined : Placed → Placed → Placed
joined a b = (a.0 ++ b.0, a.1 ++ b.1)

-- the place of what begins here in the line with this number, which has so many bytes
abbrev pub spot_at : ℕ → ℕ → List ℕ → Spot
spot_at number total start = record { line = number; column = total - length start + 1 }

-- a text that may stand in a row: not too long, and UTF-8
abbrev pub is_text : List ℕ → Bool
is_text bytes = nat_le (length bytes) MAX_TEXT && is_utf8 bytes

-- a word, which is bad where it is a text that no row may have
abbrev pub unless_bad : Token → Token
unless_bad (token.Text bytes) = if is_text bytes then token.Text bytes else token.Bad
unless_bad other = other

-- a word and what begins behind it. A bad text in quotes is the last word of its line
abbrev pub token_by : Option Read → Token × List ℕ
token_by None = (token.Bad, [])
token_by (Some read) = (unless_bad (token_of read.0), skip_blanks read.1)

abbrev pub next_token : List ℕ → Token × List ℕ
next_token start = token_by (first_word Punctuated start)

-- at most n words, of which the first begins at the first byte
unfoldable pub pieces_within : ℕ → ℕ → ℕ → List ℕ → Placed
pieces_within n number total [] = nothing
pieces_within zero number total (byte ∷ bytes) = nothing
pieces_within (suc n) number total (byte ∷ bytes) =
    let read = next_token (byte ∷ bytes) in with_first read.0 (spot_at number total (byte ∷ bytes)) (pieces_within n number total read.1)

-- the words of the line with this number. There are at most as many as bytes
abbrev pub pieces_of_line : ℕ → List ℕ → Placed
pieces_of_line number line = pieces_within (length line) number (length line) (skip_blanks line)

-- the words of lines, which number from here
abbrev pub pieces_of_lines : ℕ → List (List ℕ) → Placed
pieces_of_lines number [] = nothing
pieces_of_lines number (line ∷ lines) = joined (pieces_of_line number line) (pieces_of_lines (number + 1) lines)

-- the end of the last of these lines, which number from here, or this place where there is none
abbrev pub end_from : Spot → ℕ → List (List ℕ) → Spot
end_from spot number [] = spot
end_from spot number (line ∷ lines) = end_from (record { line = number; column = length line + 1 }) (number + 1) lines

-- the first place
abbrev pub start_spot : Spot
start_spot = record { line = 1; column = 1 }

abbrev pub closed : Placed → Spot → Placed
closed placed spot = (placed.0, placed.1 ++ spot ∷ [])

-- the words of a text with their places, and last the place of its end
abbrev pub pieces_of : List ℕ → Placed
pieces_of text = closed (pieces_of_lines 1 (lines_of text)) (end_from start_spot 1 (lines_of text))

-- the place after these bytes
abbrev pub spot_after : ℕ → ℕ → List ℕ → Spot
spot_after line column [] = record { line = line; column = column }
spot_after line column (byte ∷ bytes) = if is_lf byte then spot_after (line + 1) 1 bytes else spot_after line (column + 1) bytes
