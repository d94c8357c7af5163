-- Bloom bits: which ids a summary may have.
use Rattle.std.specs.Prelude.{◌≡◌, ℕ, ◌+◌, ◌-◌, ◌*◌, ◌/◌, ◌%◌, ◌<◌, Bool, ◌==◌, ◌&&◌, List, [], ◌∷◌, length, nat_lt, take, drop, slice_index}
use Rattle.std.specs.Int.{w32, bit_at, from_be_bytes}
use Rattle.std.specs.List.{list_any, list_all}
use Rattle.update_model.specs.declared.update_id.UpdateId.{UpdateId}
use Rattle.update_model.specs.Block.{AreBytes}

-- where the seven words of an id begin
abbrev pub offsets : List ℕ
offsets = 0 ∷ 4 ∷ 8 ∷ 12 ∷ 16 ∷ 20 ∷ 24 ∷ []

-- the word of an id that begins there, the high byte first, modulo the number of bits
abbrev pub position_at : ℕ → UpdateId → ℕ → ℕ
position_at bits id offset = from_be_bytes w32 (take 4 (drop offset id.0)) % bits

-- bit k: in byte k / 8, the highest bit first
unfoldable pub is_bit_set : List ℕ → ℕ → Bool
is_bit_set bytes k = bit_at (slice_index bytes (k / 8)) (7 - k % 8) == 1

-- whether k is one of the positions of an id
unfoldable pub is_position : ℕ → UpdateId → ℕ → Bool
is_position bits id k = list_any (λ offset. position_at bits id offset == k) offsets

-- An id is a member where the bits at all its positions are set. Without bits nothing is.
unfoldable pub is_member : List ℕ → UpdateId → Bool
is_member bytes id = nat_lt 0 (length bytes) && list_all (λ offset. is_bit_set bytes (position_at (8 * length bytes) id offset)) offsets

-- The summary of these ids: ten bits for each, in whole bytes, of which those are set that are at a position of some id.
pub record AreBits (ids : List UpdateId) (bytes : List ℕ) : Type 0 where
  pub len : length bytes ≡ (10 * length ids + 7) / 8
  pub each : AreBytes bytes
  pub exact : (k : ℕ) → k < 8 * length bytes → is_bit_set bytes k ≡ list_any (λ id. is_position (8 * length bytes) id k) ids
