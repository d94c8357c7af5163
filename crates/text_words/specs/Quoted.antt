-- Texts in double quotes. `"` is the byte 34, and the backslash is 92.
use Rattle.std.specs.Prelude.{ℕ, zero, suc, ◌+◌, ◌-◌, ◌*◌, ◌&&◌, ◌==◌, nat_lt, nat_le, List, [], ◌∷◌, length, Option, Some, None, option_and_then, option_map, if◌then◌else◌}
use Rattle.std.specs.Option.{option_map_or}

-- the value of a lower-case hexadecimal digit
abbrev pub digit_of : ℕ → Option ℕ
digit_of byte =
    if nat_le 48 byte && nat_le byte 57 then Some (byte - 48)
    else if nat_le 97 byte && nat_le byte 102 then Some (byte - 87)
    else None

-- the byte of two digits, which is below 80 hexadecimal
abbrev pub byte_of : ℕ → ℕ → Option ℕ
byte_of high low = option_and_then (λ h. option_and_then (λ l. if nat_lt h 8 then Some (16 * h + l) else None) (digit_of low)) (digit_of high)

-- what `\x` and two digits stand for, and the bytes after them
abbrev pub hex_escape : List ℕ → Option (ℕ × List ℕ)
hex_escape (high ∷ low ∷ rest) = option_map (λ byte. (byte, rest)) (byte_of high low)
hex_escape bytes = None

-- what stands after a backslash: `"`, a backslash, `n` for 10, `t` for 9, or `x` and two digits
abbrev pub escape_at : List ℕ → Option (ℕ × List ℕ)
escape_at [] = None
escape_at (byte ∷ rest) =
    if byte == 34 then Some (34, rest)
    else if byte == 92 then Some (92, rest)
    else if byte == 110 then Some (10, rest)
    else if byte == 116 then Some (9, rest)
    else if byte == 120 then hex_escape rest
    else None

-- One byte of a text, as it stands or escaped, and the bytes after it. A quote is none, nor is a raw byte below 32.
abbrev pub piece_at : List ℕ → Option (ℕ × List ℕ)
piece_at [] = None
piece_at (byte ∷ rest) =
    if byte == 34 then None
    else if byte == 92 then escape_at rest
    else if nat_lt byte 32 then None
    else Some (byte, rest)

-- the closing quote, after which no byte of the text comes
abbrev pub closing : List ℕ → Option (List ℕ × List ℕ)
closing [] = None
closing (byte ∷ rest) = if byte == 34 then Some ([], rest) else None

-- a byte before the text that is read after it
abbrev pub with_byte : ℕ → Option (List ℕ × List ℕ) → Option (List ℕ × List ℕ)
with_byte byte read = option_map (λ text. (byte ∷ text.0, text.1)) read

-- a text of at most n bytes, and the bytes after its closing quote: pieces as long as there are any, then the quote
unfoldable pub text_within : ℕ → List ℕ → Option (List ℕ × List ℕ)
text_within zero bytes = closing bytes
text_within (suc n) bytes = option_map_or (λ piece. with_byte piece.0 (text_within n piece.1)) (piece_at bytes) (closing bytes)

-- the text that goes on here after its opening quote, and the bytes after its closing quote
abbrev pub text_at : List ℕ → Option (List ℕ × List ℕ)
text_at bytes = text_within (length bytes) bytes
