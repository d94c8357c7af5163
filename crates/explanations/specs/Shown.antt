-- Lines of a text as they are shown. A tab is the byte 9, a blank is 32, `?` is 63, and 127 is the last byte below 128.
use Rattle.std.specs.Prelude.{ℕ, ◌-◌, Bool, ◌&&◌, ◌||◌, ◌==◌, nat_le, nat_lt, List, [], ◌∷◌, ◌++◌, length, take, drop, Option, Some, None, codes, if◌then◌else◌}
use Rattle.std.specs.Fmt.{decimal}
use Rattle.std.specs.List.{flat_map}
use Rattle.text_words.specs.Hexadecimal.{is_lower_digit}
use Rattle.explanations.specs.Texts.{before_place, ends_in_cr, from_place}

-- from which byte on a line is shown that has so many before the column
abbrev pub begin_of : ℕ → ℕ
begin_of front = if nat_lt 60 front then front - 41 else 0

-- a byte of UTF-8 that no character begins with
abbrev pub is_within : ℕ → Bool
is_within byte = nat_le 128 byte && nat_le byte 191

-- the bytes from the first on that a character begins with
abbrev pub from_character : List ℕ → List ℕ
from_character [] = []
from_character (byte ∷ rest) = if is_within byte then from_character rest else byte ∷ rest

-- a byte as it is shown: `?` for one that controls a terminal
abbrev pub visible : ℕ → ℕ
visible byte =
    if byte == 9 then byte
    else if nat_lt byte 32 || byte == 127 then 63
    else byte

-- the same as a text
abbrev pub visible_text : ℕ → List ℕ
visible_text byte = visible byte ∷ []

-- bytes as they are shown
abbrev pub visible_of : List ℕ → List ℕ
visible_of bytes = flat_map visible_text (from_character bytes)

-- What stands below a byte before the caret: a tab below a tab, and a blank below what a character begins with.
abbrev pub blank_below : ℕ → List ℕ
blank_below byte =
    if byte == 9 then 9 ∷ []
    else if is_within byte then []
    else 32 ∷ []

-- the line of a caret behind these bytes
abbrev pub caret_line : List ℕ → List ℕ
caret_line front = codes "      | " ++ (flat_map blank_below front ++ codes "^\n")

-- digits as they are shown: of an id, which has at least 64, the first four and `..`
abbrev pub short_run : List ℕ → List ℕ
short_run digits = if nat_lt (length digits) 64 then digits else take 4 digits ++ codes ".."

-- bytes behind digits that were begun, as they are shown
abbrev pub shortened_behind : List ℕ → List ℕ → List ℕ
shortened_behind digits [] = short_run digits
shortened_behind digits (byte ∷ rest) =
    if is_lower_digit byte then shortened_behind (digits ++ byte ∷ []) rest
    else short_run digits ++ byte ∷ shortened_behind [] rest

-- bytes with each id in them as it is shown
abbrev pub shortened : List ℕ → List ℕ
shortened bytes = shortened_behind [] bytes

-- a line without a CR that ends it
abbrev pub less_cr : List ℕ → List ℕ
less_cr line = if ends_in_cr line then take (length line - 1) line else line

-- a number in at least five columns, before a line
abbrev pub padded : ℕ → List ℕ
padded number = drop (length (decimal number)) (codes "     ") ++ (decimal number ++ codes " | ")

-- the line of a caret, where a column is given
abbrev pub caret_below : Option ℕ → List ℕ → List ℕ
caret_below None front = []
caret_below (Some column) front = caret_line front

-- A line that is shown: what stands before the column and behind it, each with its ids cut short, from where it begins
-- on, and at most 68 bytes of that.
abbrev pub shown_parts : ℕ → Option ℕ → List ℕ → List ℕ → List ℕ
shown_parts number column front back =
    padded number ++ (visible_of (take 68 (drop (begin_of (length front)) (front ++ back)))
    ++ (10 ∷ caret_below column (drop (begin_of (length front)) front)))

-- a line of a text behind its number, and where a column is given, a line with a caret below it
unfoldable pub shown : ℕ → List ℕ → Option ℕ → List ℕ
shown number line column = shown_parts number column (shortened (before_place (less_cr line) column)) (shortened (from_place (less_cr line) column))
