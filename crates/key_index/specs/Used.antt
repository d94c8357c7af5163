-- Which indices of a key are used.
use Rattle.std.specs.Prelude.{◌≡◌, ◌≢◌, ℕ, ◌<◌, ◌==◌, Bool, true, false, not, List, length, map, position, replicate, slice_index, slice_index_or, Option, MatchOption}

-- The byte of this index is not 0. A byte behind the end counts as 0.
abbrev pub IsUsed : ℕ → List ℕ → Type 0
IsUsed index image = slice_index image index ≢ 0

-- There is a byte for this index, and it is 0.
pub record IsUnused (index : ℕ) (image : List ℕ) : Type 0 where
  pub within : index < length image
  pub zero_byte : slice_index image index ≡ 0

-- For each byte whether it says used.
abbrev pub used_in : List ℕ → List Bool
used_in bytes = map (λ byte. not (byte == 0)) bytes

-- The bytes of n indices of which none is used.
abbrev pub none_used : ℕ → List ℕ
none_used n = replicate n 0

-- The least index that is not used.
abbrev pub least_unused : List Bool → Option ℕ
least_unused taken = position not taken

-- This index is used, and none above it.
pub record IsGreatestUsed (taken : List Bool) (index : ℕ) : Type 0 where
  pub within : index < length taken
  pub used : slice_index_or taken index false ≡ true
  pub above : (other : ℕ) → index < other → slice_index_or taken other false ≡ false

-- The greatest index that is used, where one is.
abbrev pub IsGreatest : List Bool → Option ℕ → Type 0
IsGreatest taken found = MatchOption found ((index : ℕ) → slice_index_or taken index false ≡ false) (IsGreatestUsed taken)
