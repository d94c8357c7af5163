-- Reading a payload from left to right.
use Rattle.std.specs.Prelude.{◌≡◌, ◌≤◌, ℕ, zero, suc, List, [], ◌∷◌, length, take, drop, Option, Some, None, Result, Ok, Err, Bool, true, false, ◌||◌, not, nat_lt, nat_le, ◌==◌, if◌then◌else◌}
use Rattle.std.specs.Int.{Width, w16, w32, byte_len, from_be_bytes}
use Rattle.update_model.specs.declared.update_id.UpdateId.{UpdateId}
use Rattle.update_model.specs.declared.limits.TheConstants.{MAX_MEMBERS}
use Rattle.update_model.specs.Form.{is_below}
use Rattle.bloom_summary.specs.declared.limits.TheConstants.{MAX_SUMMARY_BYTES}
use Rattle.sync_frames.specs.declared.limits.TheConstants.{MAX_OLD, MAX_NEEDS}
use Rattle.sync_frames.specs.declared.frame.Frame.{Frame}
use Rattle.sync_frames.specs.declared.frame.Frame.TheVariants as frames
use Rattle.sync_frames.specs.declared.fields.PayloadError.{PayloadError}
use Rattle.sync_frames.specs.declared.fields.PayloadError.TheVariants.{Memory, NoForm}
use Rattle.sync_frames.specs.declared.finding.FoundFrame.{FoundFrame}
use Rattle.sync_frames.specs.declared.finding.FoundFrame.TheVariants.{Partial, Broken, Whole}
use Rattle.sync_frames.specs.Payload.{HelloData, TurnData}
use Rattle.sync_frames.specs.Stream.{IsBegun, IsBroken, Spells}

-- a value and the bytes after it, where they are there
abbrev pub Read : Type 0 → Type 0
Read A = Option (A × List ℕ)

-- what comes next, unless there is nothing
infixl 10 ◌>>=◌
abbrev pub ◌>>=◌ : {A B : Type 0} → Option A → (A → Option B) → Option B
(Some x) >>= f = f x
None >>= f = None

-- a reader failed as this reading does
abbrev pub Stops : {Y : Type 0} → PayloadError → Option Y → Type 0
Stops Memory read = Unit {0}
Stops NoForm read = read ≡ None

-- what a reader returned, seen by view, is this reading, unless memory ran out
abbrev pub Gives : {X Y : Type 0} → (X → Y) → Result X PayloadError → Option Y → Type 0
Gives view (Ok x) read = read ≡ Some (view x)
Gives view (Err error) read = Stops error read

-- what was read is judged
abbrev pub judge : Bool → Option (Unit {0})
judge good = if good then Some tt else None

abbrev pub byte_at : List ℕ → Read ℕ
byte_at [] = None
byte_at (b ∷ rest) = Some (b, rest)

abbrev pub block_at : ℕ → List ℕ → Read (List ℕ)
block_at n bytes = if nat_lt (length bytes) n then None else Some (take n bytes, drop n bytes)

abbrev pub number_at : Width → List ℕ → Read ℕ
number_at w bytes = if nat_lt (length bytes) (byte_len w) then None else Some (from_be_bytes w (take (byte_len w) bytes), drop (byte_len w) bytes)

unfoldable pub id_at : List ℕ → Read UpdateId
id_at bytes = do
  block ← block_at 32 bytes
  Some (record { 0 = block.0 }, block.1)

-- whether an id may come after the one before it, if there is one
abbrev pub is_next : Option UpdateId → UpdateId → Bool
is_next None id = true
is_next (Some last) id = is_below last id

-- this many ids, each above the one before it
unfoldable pub ids_at : ℕ → Option UpdateId → List ℕ → Read (List UpdateId)
ids_at zero last bytes = Some ([], bytes)
ids_at (suc n) last bytes = do
  id ← id_at bytes
  above ← judge (is_next last id.0)
  others ← ids_at n (Some id.0) id.1
  Some (id.0 ∷ others.0, others.1)

-- rising ids behind their number, which is at most this
unfoldable pub counted_at : Width → ℕ → List ℕ → Read (List UpdateId)
counted_at w most bytes = do
  n ← number_at w bytes
  few ← judge (nat_le n.0 most)
  ids_at n.0 None n.1

-- a filter behind its length
unfoldable pub filter_at : List ℕ → Read (List ℕ)
filter_at bytes = do
  n ← number_at w32 bytes
  small ← judge (nat_le n.0 MAX_SUMMARY_BYTES)
  block_at n.0 n.1

-- all that stands behind the version
unfoldable pub hello_in : List ℕ → Option HelloData
hello_in bytes = do
  database ← block_at 32 bytes
  node ← block_at 32 database.1
  heads ← counted_at w32 MAX_MEMBERS node.1
  old ← counted_at w16 MAX_OLD heads.1
  filter ← filter_at old.1
  ended ← judge (length filter.1 == 0)
  Some (record { database = database.0; node = node.0; heads = heads.0; old = old.0; filter = filter.0 })

-- a truth value
abbrev pub flag_of : ℕ → Option Bool
flag_of zero = Some false
flag_of (suc zero) = Some true
flag_of (suc (suc b)) = None

unfoldable pub turn_in : List ℕ → Option TurnData
turn_in bytes = do
  first ← byte_at bytes
  have ← flag_of first.0
  needs ← counted_at w16 MAX_NEEDS first.1
  ended ← judge (length needs.1 == 0)
  none ← judge (not have || (length needs.0 == 0))
  Some (record { have = have; needs = needs.0 })

-- the payload of a Hello, which tells the version first
unfoldable pub greeting_in : List ℕ → Option Frame
greeting_in [] = None
greeting_in (version ∷ rest) = if version == 2 then (hello_in rest >>= λ hello. Some (frames.Hello hello)) else Some (frames.OtherVersion version)

-- what a payload of this kind says
unfoldable pub frame_in : ℕ → List ℕ → Option Frame
frame_in kind payload =
    if kind == 1 then greeting_in payload
    else if kind == 2 then Some (frames.Item payload)
    else turn_in payload >>= λ turn. Some (frames.Turn turn)

-- less than a frame; what is none; or a frame, of so many bytes
abbrev pub Finds : FoundFrame → List ℕ → Type 0
Finds Partial bytes = IsBegun bytes
Finds Broken bytes = IsBroken bytes
Finds (Whole frame len) bytes = (len ≤ length bytes) × (5 ≤ len) × Spells frame (take len bytes)
