-- What is written of a text.
use Rattle.std.specs.Prelude.{◌≡◌, ◌⊎◌, ℕ, ◌≤◌, List, length, take, Option}
use Rattle.std.specs.Io.KnownBytes.{Appends}
use Rattle.bec_bytes.specs.Causes.{Rose}
use Rattle.schema_verdict.specs.declared.status.TheConstants.{STREAM_FAULT}

-- What a sink has: what it holds, and its count of faults.
pub record SinkState : Type 0 where
  pub held : Option (List ℕ)
  pub faults : ℕ

-- The sink takes the whole text, and the status is the one that belongs to it; or it fails, takes a front, and the status is that of a
-- stream fault.
abbrev pub Puts : ℕ → ℕ → Option (List ℕ) → Option (List ℕ) → ℕ → List ℕ → ℕ → Type 0
Puts old new held held_new own text status =
    ((status ≡ own) × Appends held held_new text)
    ⊎ ((status ≡ STREAM_FAULT) × Rose old new × ((n : ℕ) × (n ≤ length text) × Appends held held_new (take n text)))
