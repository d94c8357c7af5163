-- The life of the parts Key and Used of a directory, from before there is a key.
use Rattle.std.specs.Prelude.{◌≡◌, ◌≢◌, ◌⊎◌, ℕ, List, [], ◌∷◌, ◌++◌, Ok, Err, IsTrue}
use Rattle.bec_disk.specs.Disk.{Moment, DiskState, IsImage, IsSettled, moments}
use Rattle.bec_disk.specs.Gated.{gated_of}
use Rattle.bec_disk.specs.declared.gated.Gated.TheVariants.{Absent}
use Rattle.lms_tree.specs.SecretKey.{SecretData}
use Rattle.key_index.specs.Creating.{CreatesKey, Creating}
use Rattle.key_index.specs.KeyState.{AreSettled, KeyParts, KeyState}
use Rattle.key_index.specs.Opening.{OpensKey}
use Rattle.key_index.specs.Reserving.{Reserves}
use Rattle.key_index.specs.declared.reserve.Reserve.{Reserve}

-- A crash at one of these moments may leave these bytes.
abbrev pub SomeImage : List Moment → List ℕ → Type 0
SomeImage [] image = ⊥
SomeImage (moment ∷ others) image = IsImage moment image ⊎ SomeImage others image

-- A crash at a moment from the old state to the new one may leave these bytes.
pub record MayLeave (old new : DiskState) (image : List ℕ) : Type 0 where
  pub since : List Moment
  pub follow : moments new ≡ since ++ moments old
  pub moment : SomeImage (since ++ old.now ∷ []) image

-- No store is open over the two parts, or this one is.
pub data Life : Type 0 where
  Closed : KeyParts → Life
  Open : KeyState → Life

abbrev pub parts_in : Life → KeyParts
parts_in (Closed parts) = parts
parts_in (Open store) = store.parts

abbrev pub IsOpen : Life → Type 0
IsOpen (Closed parts) = ⊥
IsOpen (Open store) = Unit {0}

-- an index, and the message that it signed
abbrev pub Message : Type 0
Message = ℕ × List ℕ

-- The gate of the part is not shut.
abbrev pub IsThere : List ℕ → Type 0
IsThere bytes = gated_of bytes ≢ Absent

-- One part, handed out anew: it reads as before, and that counts as synced. What it read as is what a crash might have left.
pub record IsHandedOut (old new : DiskState) : Type 0 where
  pub tells : IsTrue new.tells
  pub reads : IsImage old.now old.seen
  pub seen : new.seen ≡ old.seen
  pub settled : IsSettled new

-- A part that a crash left, on a disk of its own.
pub record IsLeft (old new after : DiskState) : Type 0 where
  pub tells : IsTrue after.tells
  pub settled : IsSettled after
  pub left : MayLeave old new after.seen

-- What a crash left of two parts, each at a moment of its own.
pub record AreLeft (old new after : KeyParts) : Type 0 where
  pub key : IsLeft old.key new.key after.key
  pub used : IsLeft old.used new.used after.used

pub record AreHandedOut (old new : KeyParts) : Type 0 where
  pub key : IsHandedOut old.key new.key
  pub used : IsHandedOut old.used new.used

-- What a call does, with the message that it signed if it signed one: a creation refuses or makes a key; a key is opened; an index is asked for, and answered
-- for a message or not; or the parts are put back.
pub data Acts : Life → List Message → Life → Type 0 where
  refused : (secret : SecretData) (old new : KeyParts) → AreSettled old → Creating secret old new → Acts (Closed old) [] (Closed new)
  created : (secret : SecretData) (old : KeyParts) (store : KeyState) → AreSettled old → CreatesKey secret old store → Acts (Closed old) [] (Open store)
  opened : (old : KeyParts) (store : KeyState) → AreSettled old → OpensKey old store → Acts (Closed old) [] (Open store)
  failed : (store next : KeyState) (why : Reserve) → Reserves store (Err why) next → Acts (Open store) [] (Open next)
  signed : (store next : KeyState) (index : ℕ) (message : List ℕ) → Reserves store (Ok index) next → Acts (Open store) ((index, message) ∷ []) (Open next)
  put_back : (store : KeyState) → Acts (Open store) [] (Closed store.parts)

-- One step of a life: a call came to its end; both parts were handed out anew; or a crash left them, between calls or in the middle of one. What a call would
-- have signed that a crash cut short was not released.
pub data Steps : Life → List Message → Life → Type 0 where
  acted : (life next : Life) (some : List Message) → Acts life some next → Steps life some next
  handed_out : (old new : KeyParts) → AreHandedOut old new → Steps (Closed old) [] (Closed new)
  stopped_between : (life : Life) (after : KeyParts) → AreLeft (parts_in life) (parts_in life) after → Steps life [] (Closed after)
  stopped_within : (life next : Life) (under_way : List Message) (after : KeyParts) → Acts life under_way next → AreLeft (parts_in life) (parts_in next) after → Steps life [] (Closed after)

-- A run of steps, with all messages that were signed, in order.
pub data Runs : Life → List Message → Life → Type 0 where
  ends : (life : Life) → Runs life [] life
  goes_on : (life mid last : Life) (some rest signed : List Message) → Steps life some mid → Runs mid rest last → signed ≡ some ++ rest → Runs life signed last

-- The index signed one of these messages.
abbrev pub Has : List Message → ℕ → Type 0
Has [] index = ⊥
Has (message ∷ messages) index = (message.0 ≡ index) ⊎ Has messages index

-- No two of these messages are by one index.
abbrev pub AreApart : List Message → Type 0
AreApart [] = Unit {0}
AreApart (message ∷ messages) = (Has messages message.0 → ⊥) × AreApart messages

-- A call, which is a run of steps, came to its end; or a crash cut it short, between two of its steps or within one, and these messages had been signed.
pub data Calls : Life → List Message → Life → Type 0 where
  came_whole : (life last : Life) (all : List Message) → Runs life all last → Calls life all last
  cut_within : (life mid next last : Life) (all under_way rest : List Message) (after : KeyParts) → Runs life all mid → Acts mid under_way next → Runs next rest last
      → AreLeft (parts_in mid) (parts_in next) after → Calls life all (Closed after)
  cut_between : (life mid last : Life) (all rest : List Message) (after : KeyParts) → Runs life all mid → Runs mid rest last → AreLeft (parts_in mid) (parts_in mid) after → Calls life all (Closed after)

-- Any list of calls, each of which may be cut short, with all messages that were signed, in order.
pub data Histories : Life → List Message → Life → Type 0 where
  no_call : (life : Life) → Histories life [] life
  then_call : (life mid last : Life) (some rest all : List Message) → Calls life some mid → Histories mid rest last → all ≡ some ++ rest → Histories life all last
