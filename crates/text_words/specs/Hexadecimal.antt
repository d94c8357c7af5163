-- Bytes in lower-case hexadecimal, and names of rows.
use Rattle.std.specs.Prelude.{ℕ, ◌+◌, ◌^◌, Bool, ◌||◌, ◌==◌, nat_lt, List, take, drop, position, ℤ, pos, negsuc, Option, Some, None, Result, Ok, Err, option_map, option_and_then, if◌then◌else◌}
use Rattle.std.specs.Char.{is_ascii_digit}
use Rattle.std.specs.Int.{is_in_range}
use Rattle.std.specs.List.{list_all}
use Rattle.hex.specs.Hex.{decode_sized}
use Rattle.text_words.specs.Integers.{int_of}

-- a digit `0` to `9` or `a` to `f`
abbrev pub is_lower_digit : ℕ → Bool
is_lower_digit byte = is_ascii_digit byte || is_in_range 97 102 byte

-- bytes that were decoded
abbrev pub if_decoded : {E : Type 0} → Result (List ℕ) E → Option (List ℕ)
if_decoded (Ok bytes) = Some bytes
if_decoded (Err fault) = None

-- the n bytes that lower-case digits write, two for each byte
abbrev pub block_of_hex : ℕ → List ℕ → Option (List ℕ)
block_of_hex n digits = if list_all is_lower_digit digits then if_decoded (decode_sized digits n) else None

-- an integer that is a number of 16 bits
abbrev pub small_of : Option ℤ → Option ℕ
small_of (Some (pos n)) = if nat_lt n (2 ^ 16) then Some n else None
small_of (Some (negsuc n)) = None
small_of None = None

-- both, where there are both
abbrev pub both : {A B : Type 0} → Option A → Option B → Option (A × B)
both a b = option_and_then (λ x. option_map (λ y. (x, y)) b) a

abbrev pub is_colon : ℕ → Bool
is_colon byte = byte == 58

-- the number of 16 bits that a word writes in decimal
abbrev pub index_of : List ℕ → Option ℕ
index_of word = small_of (int_of word)

-- the name of a row: the 32 bytes of an update's id, a colon (the byte 58), and an operation's number in decimal
abbrev pub row_of : List ℕ → Option (List ℕ × ℕ)
row_of word =
    option_and_then (λ colon. both (block_of_hex 32 (take colon word)) (index_of (drop (colon + 1) word))) (position is_colon word)
