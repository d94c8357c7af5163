-- The parameters of the four LM-OTS types with SHA-256 (RFC 8554, sections 4.1 and 4.2).
use Rattle.std.specs.Prelude.{ℕ, ◌+◌, ◌*◌, ◌-◌, ◌^◌}
use Rattle.lm_ots.specs.declared.ots_type.OtsType.{OtsType}
use Rattle.lm_ots.specs.declared.ots_type.OtsType.TheVariants.{W1, W2, W4, W8}

-- the type's number
abbrev pub type_word : OtsType → ℕ
type_word W1 = 1
type_word W2 = 2
type_word W4 = 3
type_word W8 = 4

-- w, the bits of a digit
abbrev pub width : OtsType → ℕ
width W1 = 1
width W2 = 2
width W4 = 4
width W8 = 8

-- p, the chains of a key
abbrev pub chain_count : OtsType → ℕ
chain_count W1 = 265
chain_count W2 = 133
chain_count W4 = 67
chain_count W8 = 34

-- ls, the bits by which the checksum is shifted to the left
abbrev pub checksum_shift : OtsType → ℕ
checksum_shift W1 = 7
checksum_shift W2 = 6
checksum_shift W4 = 4
checksum_shift W8 = 0

-- the greatest digit, which is the number of a chain's steps
abbrev pub greatest_digit : OtsType → ℕ
greatest_digit kind = 2 ^ width kind - 1

-- the bytes of a signature: the type's number, C, and a value of each chain
abbrev pub signature_length : OtsType → ℕ
signature_length kind = 4 + 32 * (chain_count kind + 1)
