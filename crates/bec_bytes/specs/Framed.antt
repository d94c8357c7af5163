-- Pieces of bytes that stand in a stream behind their lengths.
use Rattle.std.specs.Prelude.{◌≡◌, ℕ, ◌+◌, ◌-◌, ◌<◌, ◌≤◌, List, [], ◌++◌, length, take, drop, nat_le, if◌then◌else◌}
use Rattle.std.specs.List.{flat_map}
use Rattle.std.specs.Int.{w32, to_be_bytes, from_be_bytes}
use Rattle.bec_bytes.specs.declared.framed.Framed.{Framed}
use Rattle.bec_bytes.specs.declared.framed.Framed.TheVariants.{End, Cut, TooLong, Whole}
use Rattle.bec_bytes.specs.declared.read_error.ReadError.{ReadError}
use Rattle.bec_bytes.specs.declared.read_error.ReadError.TheVariants.{Failed, Memory}

-- a piece in a stream: four bytes of length, the high byte first, and that many bytes
unfoldable pub framed : List ℕ → List ℕ
framed piece = to_be_bytes w32 (length piece) ++ piece

-- the pieces, one after the other
unfoldable pub stream_of : List (List ℕ) → List ℕ
stream_of pieces = flat_map framed pieces

-- the length that stands before a piece
abbrev pub length_at : List ℕ → ℕ
length_at bytes = from_be_bytes w32 (take 4 bytes)

-- The bytes are this piece behind its length, which is within the limit, and then the rest.
pub record HoldsPiece (limit : ℕ) (bytes piece rest : List ℕ) : Type 0 where
  pub short : length piece ≤ limit
  pub parts : bytes ≡ framed piece ++ rest

-- The bytes end in a length, or in the piece behind one that is within the limit.
pub data IsCut (limit : ℕ) (bytes : List ℕ) : Type 0 where
  in_length : 0 < length bytes → length bytes < 4 → IsCut limit bytes
  in_piece : 4 ≤ length bytes → length_at bytes ≤ limit → length bytes < 4 + length_at bytes → IsCut limit bytes

-- The bytes begin with a length that is above the limit.
pub record IsTooLong (limit : ℕ) (bytes : List ℕ) : Type 0 where
  pub whole : 4 ≤ length bytes
  pub over : limit < length_at bytes

-- what stands at the front of these bytes, and the rest, which is left when it was read: of a piece that is too long, its
-- length alone is read
abbrev pub StandsFirst : ℕ → List ℕ → List ℕ → Framed → Type 0
StandsFirst limit bytes rest End = (bytes ≡ []) × (rest ≡ [])
StandsFirst limit bytes rest (Cut came) = IsCut limit bytes × (came ≡ length bytes - 4) × (rest ≡ [])
StandsFirst limit bytes rest TooLong = IsTooLong limit bytes × (rest ≡ drop 4 bytes)
StandsFirst limit bytes rest (Whole piece) = HoldsPiece limit bytes piece.items rest

-- how many bytes are read at most of what stands at the front: a length, and what is behind it if that is within the limit
abbrev pub span_of : ℕ → List ℕ → ℕ
span_of limit bytes = if nat_le (length_at bytes) limit then 4 + length_at bytes else 4

-- no more was read than the piece that stands at the front, and this is left
abbrev pub StaysWithin : ℕ → List ℕ → List ℕ → Type 0
StaysWithin limit bytes rest = (n : ℕ) × (n ≤ span_of limit bytes) × (rest ≡ drop n bytes)

-- What is left where the reading failed: after a fault of the source, what stands behind a front of the piece; for want of
-- memory, what stands behind its length.
abbrev pub IsLeft : ℕ → List ℕ → List ℕ → ReadError → Type 0
IsLeft limit bytes rest Failed = StaysWithin limit bytes rest
IsLeft limit bytes rest Memory = (4 ≤ length bytes) × (rest ≡ drop 4 bytes)

-- what came of a piece is within the limit
abbrev pub IsShort : ℕ → Framed → Type 0
IsShort limit End = Unit {0}
IsShort limit (Cut came) = came ≤ limit
IsShort limit TooLong = Unit {0}
IsShort limit (Whole piece) = length piece.items ≤ limit
