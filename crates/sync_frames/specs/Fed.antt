-- A decoder of frames, and what a piece gives.
use Rattle.std.specs.Prelude.{◌≡◌, ℕ, ◌+◌, ◌-◌, ◌^◌, ◌≤◌, min, Bool, false, IsTrue, List, ◌++◌, length, take, drop}
use Rattle.sync_frames.specs.declared.frame.Frame.{Frame}
use Rattle.sync_frames.specs.declared.fault.FeedError.{FeedError}
use Rattle.sync_frames.specs.declared.fault.FeedError.TheVariants.{Memory, Fault}
use Rattle.sync_frames.specs.Stream.{AreSpelled, IsBegun, IsBroken, Splits}

-- a decoder: how many bytes the frames that were given have, and what came since
pub record FedData : Type 0 where
  pub place : ℕ
  pub rest : List ℕ

-- The fault is one of the stream: what came since the last frame is none, and this is its place.
abbrev pub HasCause : FedData → FeedError → Type 0
HasCause fed Memory = Unit {0}
HasCause fed (Fault fault) = IsBroken fed.rest × (fault.place ≡ fed.place)

-- The frames of what came before and of the piece, each once; the rest is kept. No more than 2 ^ 64 - 1 bytes are counted.
pub record Feeds (old new : FedData) (piece : List ℕ) (frames : List Frame) : Type 0 where
  pub splits : Splits (old.rest ++ piece) frames new.rest
  pub place : new.place ≡ min (old.place + length splits.front) (2 ^ 64 - 1)
  pub fine : IsBroken old.rest → ⊥

-- What a decoder keeps: what came since the last frame is the beginning of one, or is known to be none.
pub record IsFed (rest : List ℕ) (broken : Bool) : Type 0 where
  pub none : IsTrue broken → IsBroken rest
  pub begun : broken ≡ false → IsBegun rest

-- These frames stand at the front and take up so many bytes; what follows is broken or only begun.
pub record Fronts (bytes : List ℕ) (frames : List Frame) (len : ℕ) (broken : Bool) : Type 0 where
  pub within : len ≤ length bytes
  pub each : AreSpelled frames (take len bytes)
  pub rest : IsFed (drop len bytes) broken
