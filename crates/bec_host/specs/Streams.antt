-- What a contract sees of an adapter.
use Rattle.std.specs.Prelude.{ℕ, ◌≤◌, List, length, take}
use Rattle.std.specs.declared.option.Option.{Option}
use Rattle.std.specs.Io.KnownBytes.{Appends}

-- The bytes that are still to be read or that were written, where the reader or the writer tells them,
-- and how many faults there were.
pub record HostStream : Type 0 where
  pub bytes : Option (List ℕ)
  pub faults : ℕ

-- The bytes of a connection that are still to be read, and those that were written to it, where the stream tells them, and
-- how many faults there were.
pub record HostLink : Type 0 where
  pub coming : Option (List ℕ)
  pub gone : Option (List ℕ)
  pub faults : ℕ

-- A front of the piece was written.
abbrev pub WritesFront : Option (List ℕ) → Option (List ℕ) → List ℕ → Type 0
WritesFront before after piece = (n : ℕ) × (n ≤ length piece) × Appends before after (take n piece)
