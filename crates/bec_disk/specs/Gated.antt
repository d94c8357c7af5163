-- What a gated part stands for.
use Rattle.std.specs.Prelude.{◌≡◌, ◌⊎◌, ℕ, ◌+◌, List, ◌∷◌, ◌++◌, length, take, drop, slice_index, if◌then◌else◌, ◌==◌, ◌||◌, nat_lt}
use Rattle.byteorder.specs.Endian.{big_number, big_bytes}
use Rattle.bec_disk.specs.declared.gated.Gated.{Gated}
use Rattle.bec_disk.specs.declared.gated.Gated.TheVariants.{Absent, Damaged, Whole}

-- Absent with fewer than five bytes or behind a gate that is 0, whole where the size is five bytes and the stated length,
-- and else damaged.
abbrev pub gated_of : List ℕ → Gated
gated_of bytes =
    if nat_lt (length bytes) 5 || (slice_index bytes 0 == 0) then Absent
    else (if length bytes == 5 + big_number 4 (take 4 (drop 1 bytes)) then Whole (drop 5 bytes) else Damaged)

-- The gate 1, the length, the payload.
abbrev pub whole_of : List ℕ → List ℕ
whole_of payload = 1 ∷ big_bytes 4 (length payload) ++ payload

-- Absent, whole with the new payload, or what the old bytes stand for.
abbrev pub IsOldOrNew : List ℕ → List ℕ → List ℕ → Type 0
IsOldOrNew old payload image = (gated_of image ≡ Absent) ⊎ ((gated_of image ≡ Whole payload) ⊎ (gated_of image ≡ gated_of old))

-- The gate is 0, or not there.
abbrev pub IsShut : List ℕ → Type 0
IsShut image = slice_index image 0 ≡ 0

abbrev pub IsShutOrSame : List ℕ → List ℕ → Type 0
IsShutOrSame old image = IsShut image ⊎ (gated_of image ≡ gated_of old)
