-- Bytes of a stated number.
use Rattle.std.specs.Prelude.{◌≡◌, ℕ, ◌<◌, List, length, slice_index}
use Rattle.update_model.specs.declared.update_id.UpdateId.{UpdateId}

-- each number is a byte
abbrev pub AreBytes : List ℕ → Type 0
AreBytes bytes = (i : ℕ) → slice_index bytes i < 256

-- n bytes
pub record IsBlock (n : ℕ) (bytes : List ℕ) : Type 0 where
  pub len : length bytes ≡ n
  pub each : AreBytes bytes

-- an id has 32 bytes
abbrev pub IsId : UpdateId → Type 0
IsId id = IsBlock 32 id.0
