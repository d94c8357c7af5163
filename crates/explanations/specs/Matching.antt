-- Kinds of refusals. `C`, `D`, `K`, `L`, `N` and `P` are the bytes 67, 68, 75, 76, 78 and 80.
use Rattle.std.specs.Prelude.{ℕ, ◌+◌, ◌-◌, ◌*◌, ◌^◌, Bool, ◌||◌, ◌==◌, min, List, [], ◌∷◌, Option, Some, None, option_and_then, option_map, if◌then◌else◌}
use Rattle.std.specs.Char.{is_ascii_digit}
use Rattle.text_words.specs.Hexadecimal.{is_lower_digit}
use Rattle.explanations.specs.declared.marks.Marks.{Marks}

-- a number where it stops at 2^64 - 1
abbrev pub capped : ℕ → ℕ
capped n = min n (2 ^ 64 - 1)

-- a number with a digit more behind it
abbrev pub with_digit : ℕ → ℕ → ℕ
with_digit number digit = capped (capped (number * 10) + (digit - 48))

-- the number that these digits write behind one that was begun, and what comes behind them
abbrev pub number_from : ℕ → List ℕ → ℕ × List ℕ
number_from number [] = (number, [])
number_from number (byte ∷ rest) = if is_ascii_digit byte then number_from (with_digit number byte) rest else (number, byte ∷ rest)

-- the number that stands here, and what comes behind it
abbrev pub number_at : List ℕ → Option (ℕ × List ℕ)
number_at [] = None
number_at (byte ∷ rest) = if is_ascii_digit byte then Some (number_from 0 (byte ∷ rest)) else None

-- the numbers with one more, by the letter that stands for it
abbrev pub marked : ℕ → Marks → ℕ → Marks
marked sign marks number =
    if sign == 67 then record { line = marks.line; column = Some number; number = marks.number; operation = marks.operation }
    else if sign == 75 then record { line = marks.line; column = marks.column; number = marks.number; operation = Some number }
    else if sign == 76 then record { line = Some number; column = marks.column; number = marks.number; operation = marks.operation }
    else if sign == 78 then record { line = marks.line; column = marks.column; number = Some number; operation = marks.operation }
    else marks

-- what comes behind the digits of an id
abbrev pub after_id : List ℕ → List ℕ
after_id [] = []
after_id (byte ∷ rest) = if is_lower_digit byte then after_id rest else byte ∷ rest

-- what comes behind this byte
abbrev pub after_byte : ℕ → List ℕ → Option (List ℕ)
after_byte sign [] = None
after_byte sign (byte ∷ rest) = if byte == sign then Some rest else None

-- a letter that stands for a number
abbrev pub is_number_sign : ℕ → Bool
is_number_sign sign = sign == 67 || sign == 75 || sign == 76 || sign == 78 || sign == 80

-- the numbers with what a byte of a key takes from a line, and what comes behind that
abbrev pub matched_sign : ℕ → Marks → List ℕ → Option (Marks × List ℕ)
matched_sign sign marks said =
    if is_number_sign sign then option_map (λ read. (marked sign marks read.0, read.1)) (number_at said)
    else if sign == 68 then Some (marks, after_id said)
    else option_map (λ rest. (marks, rest)) (after_byte sign said)

-- the numbers with those of a line that is as the rest of a key says
abbrev pub numbers_from : Marks → List ℕ → List ℕ → Option Marks
numbers_from marks [] [] = Some marks
numbers_from marks [] (byte ∷ said) = None
numbers_from marks (sign ∷ signs) said = option_and_then (λ read. numbers_from read.0 signs read.1) (matched_sign sign marks said)

-- no number
abbrev pub no_marks : Marks
no_marks = record { line = None; column = None; number = None; operation = None }

-- the numbers of a line that is as a key says
abbrev pub numbers_of : List ℕ → List ℕ → Option Marks
numbers_of key said = numbers_from no_marks key said
