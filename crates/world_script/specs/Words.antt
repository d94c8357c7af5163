-- Words of a line, and the numbers that they write.
use Rattle.std.specs.Prelude.{ℕ, ◌^◌, Bool, ◌&&◌, ◌||◌, ◌==◌, nat_lt, List, length, take, drop, Option, Some, None, option_map, option_and_then, if◌then◌else◌, bytes_eq, codes}
use Rattle.std.specs.List.{position_or_len}
use Rattle.std.specs.Str.Parse.{digits_value}
use Rattle.text_words.specs.Integers.{is_positive_numeral}
use Rattle.text_words.specs.Words.{is_blank, skip_blanks}

-- the bytes up to the first blank, or all, and what stands from there on
abbrev pub cut_word : List ℕ → List ℕ × List ℕ
cut_word start = let n = position_or_len is_blank start in (take n start, drop n start)

-- the next word of a line, which is empty where there is none, and what stands after it
abbrev pub next_word : List ℕ → List ℕ × List ℕ
next_word rest = cut_word (skip_blanks rest)

-- only blanks follow
abbrev pub is_end : List ℕ → Bool
is_end rest = length (skip_blanks rest) == 0

-- a number in decimal: `0`, or digits of which the first is not 0
abbrev pub is_number_form : List ℕ → Bool
is_number_form word = bytes_eq word (codes "0") || is_positive_numeral word

-- the number below 2^64 that a word writes
abbrev pub number_of : List ℕ → Option ℕ
number_of word = let number = digits_value 10 word in if is_number_form word && nat_lt number (2 ^ 64) then Some number else None

-- something beside what stands after it
abbrev pub before : {A : Type 0} → Option A → List ℕ → Option (A × List ℕ)
before found rest = option_map (λ a. (a, rest)) found

-- the number that the next word writes, and what stands after it
abbrev pub number_at : List ℕ → Option (ℕ × List ℕ)
number_at rest = let read = next_word rest in before (number_of read.0) read.1

-- the same where the number is below a limit
abbrev pub number_below : ℕ → List ℕ → Option (ℕ × List ℕ)
number_below limit rest = option_and_then (λ read. if nat_lt read.0 limit then Some read else None) (number_at rest)
