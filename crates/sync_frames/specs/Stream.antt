-- A stream of frames, in whatever pieces it comes.
use Rattle.std.specs.Prelude.{◌≡◌, ◌≢◌, ◌⊎◌, ℕ, ◌+◌, ◌<◌, ◌≤◌, Bool, true, false, ◌&&◌, ◌||◌, ◌==◌, List, [], ◌∷◌, ◌++◌, length, take, drop, slice_index, nat_le}
use Rattle.std.specs.Int.{w32, to_be_bytes, from_be_bytes}
use Rattle.update_codec.specs.declared.limits.TheConstants.{UPDATE_LIMIT}
use Rattle.sync_frames.specs.declared.limits.TheConstants.{PAYLOAD_LIMIT}
use Rattle.sync_frames.specs.declared.frame.Frame.{Frame}
use Rattle.sync_frames.specs.declared.frame.Frame.TheVariants as frames
use Rattle.sync_frames.specs.Payload.{IsHello, IsTurn, HasBlocks, AreIds, hello_payload, turn_payload}

-- a frame before it is known what its payload says
pub record RawFrame : Type 0 where
  pub kind : ℕ
  pub payload : List ℕ

-- on the stream: the kind, the payload's length in four bytes, and the payload
abbrev pub spelled : RawFrame → List ℕ
spelled raw = raw.kind ∷ to_be_bytes w32 (length raw.payload) ++ raw.payload

-- whether a frame may begin with this kind and this length: a Hello, an Item or a Turn
abbrev pub is_head : ℕ → ℕ → Bool
is_head kind len = ((kind == 1) || (kind == 3)) && nat_le len PAYLOAD_LIMIT || (kind == 2) && nat_le len UPDATE_LIMIT

-- What a frame says. A Hello of another version is told by its version alone, whatever follows.
abbrev pub Says : RawFrame → Frame → Type 0
Says raw (frames.Hello hello) = (raw.kind ≡ 1) × (raw.payload ≡ hello_payload hello) × IsHello hello × HasBlocks hello
Says raw (frames.OtherVersion version) = (raw.kind ≡ 1) × (version ≢ 2) × ((rest : List ℕ) × (raw.payload ≡ version ∷ rest))
Says raw (frames.Item bytes) = (raw.kind ≡ 2) × (raw.payload ≡ bytes)
Says raw (frames.Turn turn) = (raw.kind ≡ 3) × (raw.payload ≡ turn_payload turn) × IsTurn turn × AreIds turn.needs

-- These bytes are a frame that says this.
pub record Spells (frame : Frame) (bytes : List ℕ) : Type 0 where
  pub raw : RawFrame
  pub whole : bytes ≡ spelled raw
  pub head : is_head raw.kind (length raw.payload) ≡ true
  pub says : Says raw frame

-- These bytes are these frames, one after the other.
abbrev pub AreSpelled : List Frame → List ℕ → Type 0
AreSpelled [] bytes = bytes ≡ []
AreSpelled (frame ∷ frames) bytes = (first : List ℕ) × (others : List ℕ) × Spells frame first × AreSpelled frames others × (bytes ≡ first ++ others)

abbrev pub kind_of : List ℕ → ℕ
kind_of bytes = slice_index bytes 0

abbrev pub length_of : List ℕ → ℕ
length_of bytes = from_be_bytes w32 (take 4 (drop 1 bytes))

-- what stands behind kind and length, as much as the length says
abbrev pub front_of : List ℕ → RawFrame
front_of bytes = record { kind = kind_of bytes; payload = take (length_of bytes) (drop 5 bytes) }

-- less than a whole frame, and nothing wrong yet
abbrev pub IsBegun : List ℕ → Type 0
IsBegun bytes = (length bytes < 5) ⊎ ((is_head (kind_of bytes) (length_of bytes) ≡ true) × (length bytes < 5 + length_of bytes))

-- Kind or length is wrong, as soon as five bytes are there; or the payload is whole and says nothing.
pub record IsBroken (bytes : List ℕ) : Type 0 where
  pub enough : 5 ≤ length bytes
  pub wrong : (is_head (kind_of bytes) (length_of bytes) ≡ false)
      ⊎ ((5 + length_of bytes ≤ length bytes) × ((frame : Frame) → Says (front_of bytes) frame → ⊥))

-- The stream is these frames, and then a rest that begins no whole frame.
pub record Splits (stream : List ℕ) (frames : List Frame) (rest : List ℕ) : Type 0 where
  pub front : List ℕ
  pub each : AreSpelled frames front
  pub whole : stream ≡ front ++ rest
  pub last : IsBegun rest ⊎ IsBroken rest
