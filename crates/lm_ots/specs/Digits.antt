-- The digits of a digest and its checksum (RFC 8554, sections 3.1.3 and 4.4).
use Rattle.std.specs.Prelude.{ℕ, ◌+◌, ◌-◌, ◌*◌, ◌/◌, ◌%◌, ◌^◌, List, ◌++◌, slice_index}
use Rattle.std.specs.Int.{w16, to_be_bytes}
use Rattle.lm_ots.specs.declared.ots_type.OtsType.{OtsType}
use Rattle.lm_ots.specs.OtsKind.{width, checksum_shift, greatest_digit}
use Rattle.lm_ots.specs.Joined.{sum_below}

-- the i-th group of w bits of the bytes, from the most significant end (3.1.3)
abbrev pub coef : List ℕ → ℕ → ℕ → ℕ
coef bytes i w = slice_index bytes (i * w / 8) / 2 ^ (8 - (w * (i % (8 / w)) + w)) % 2 ^ w

-- what the digits of a digest lack of the greatest digit, in all, shifted to the left (4.4)
abbrev pub checksum : OtsType → List ℕ → ℕ
checksum kind digest =
    sum_below (λ i. greatest_digit kind - coef digest i (width kind)) (256 / width kind) * 2 ^ checksum_shift kind

-- the digest and its checksum, whose groups of bits are the digits
abbrev pub checked_digest : OtsType → List ℕ → List ℕ
checked_digest kind digest = digest ++ to_be_bytes w16 (checksum kind digest)
