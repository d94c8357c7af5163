-- The bytes of a generator over SHA-256.
use Rattle.std.specs.Prelude.{ℕ, ◌+◌, ◌%◌, ◌^◌, ◌==◌, List, [], ◌∷◌, ◌++◌, slice_index, if◌then◌else◌}
use Rattle.std.specs.Int.{w32, w64, to_be_bytes, from_le_bytes}
use Rattle.sha2.specs.Sha256.{sha256}
use Rattle.rand_core.specs.Steps.{Steps, word_bytes}

-- the block with this number, which is used next, and how many of its bytes were used
pub record HashState : Type 0 where
  pub key : List ℕ
  pub number : ℕ
  pub used : ℕ

-- the block with this number
abbrev pub block_bytes : List ℕ → ℕ → List ℕ
block_bytes key number = sha256 (key ++ to_be_bytes w64 number)

abbrev pub one_used : HashState → HashState
one_used s =
    if s.used + 1 == 32 then record s { number = (s.number + 1) % 2 ^ 64; used = 0 }
    else record s { used = s.used + 1 }

-- the next byte, and what is left
abbrev pub next_byte : HashState → ℕ × HashState
next_byte s = (slice_index (block_bytes s.key s.number) s.used, one_used s)

abbrev pub one_byte : ℕ → List ℕ
one_byte b = b ∷ []

-- the next n bytes, and what is left
abbrev pub next_bytes : ℕ → HashState → List ℕ × HashState
next_bytes n s = word_bytes one_byte next_byte n s

-- words are made of the next bytes, the low byte first
abbrev pub hash_steps : Steps HashState
hash_steps = record {
  next_u32 = λ s. (from_le_bytes w32 (next_bytes 4 s).0, (next_bytes 4 s).1);
  next_u64 = λ s. (from_le_bytes w64 (next_bytes 8 s).0, (next_bytes 8 s).1);
  fill_bytes = next_bytes;
}
