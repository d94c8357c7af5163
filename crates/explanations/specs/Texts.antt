-- Lines of a text, each with a CR that it ends in. A tab is the byte 9, an LF is 10, a CR is 13, and a blank is 32.
use Rattle.std.specs.Prelude.{ℕ, zero, suc, ◌+◌, ◌-◌, Bool, ◌||◌, ◌==◌, nat_eq, List, [], ◌∷◌, take, drop, Option, Some, None, slice_get, if◌then◌else◌}
use Rattle.std.specs.List.{ends_with, list_all, list_any}
use Rattle.std.specs.Option.{unwrap_or}
use Rattle.explanations.specs.Matching.{capped}
use Rattle.explanations.specs.Parts.{parts_of}

-- the lines of a text
abbrev pub text_lines : List ℕ → List (List ℕ)
text_lines text = parts_of 10 text

-- the line with this number, counted from 1
abbrev pub line_numbered : List ℕ → ℕ → Option (List ℕ)
line_numbered text zero = None
line_numbered text (suc before) = slice_get (text_lines text) before

-- a blank, a tab or a CR
abbrev pub is_space : ℕ → Bool
is_space byte = byte == 32 || byte == 9 || byte == 13

-- a line of blanks
abbrev pub is_bare : List ℕ → Bool
is_bare line = list_all is_space line

-- Among lines of which the first has this number: the line of an operation, counted from 0 over those that are not bare,
-- and its number.
abbrev pub operation_among : ℕ → ℕ → List (List ℕ) → Option (ℕ × List ℕ)
operation_among number operation [] = None
operation_among number operation (line ∷ lines) =
    if is_bare line then operation_among (capped (number + 1)) operation lines
    else if operation == 0 then Some (number, line)
    else operation_among (capped (number + 1)) (operation - 1) lines

-- the line of an operation, and its number, counted from 1
abbrev pub line_of_operation : List ℕ → ℕ → Option (ℕ × List ℕ)
line_of_operation text operation = operation_among 1 operation (text_lines text)

-- a line that a CR ends
abbrev pub ends_in_cr : List ℕ → Bool
ends_in_cr line = ends_with nat_eq line (13 ∷ [])

-- a line of a text ends in a CR
abbrev pub some_cr : List ℕ → Bool
some_cr text = list_any ends_in_cr (text_lines text)

-- how many bytes stand before a column, which is counted from 1
abbrev pub place_of : Option ℕ → ℕ
place_of column = unwrap_or column 0 - 1

-- what stands before a column, and from it on
abbrev pub before_place : List ℕ → Option ℕ → List ℕ
before_place line column = take (place_of column) line

abbrev pub from_place : List ℕ → Option ℕ → List ℕ
from_place line column = drop (place_of column) line
