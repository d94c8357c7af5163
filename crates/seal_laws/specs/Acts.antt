-- What is done to the keys of directories: each act, and what a crash within one leaves.
use Rattle.std.specs.Prelude.{◌≡◌, ◌⊎◌, ℕ, List, [], ◌∷◌, ◌++◌, Some, None, Ok, Err, IsTrue}
use Rattle.bec_disk.specs.Disk.{DiskState, IsSettled, Moment}
use Rattle.bec_disk.specs.declared.part.Part.TheVariants.{Key, Used, Peers}
use Rattle.bec_disk.specs.Shelf.{PartState, ShelfState, absent, moments_of, out, stands}
use Rattle.lms_tree.specs.SecretKey.{SecretData}
use Rattle.key_index.specs.KeyState.{KeyState}
use Rattle.key_index.specs.Lives.{SomeImage}
use Rattle.key_index.specs.Reserving.{Reserves}
use Rattle.key_index.specs.declared.reserve.Reserve.{Reserve}
use Rattle.key_directory.specs.Keys.{LetsKeyGo, MakesKey, PutsKey, TakesKey}
use Rattle.key_directory.specs.Parts.{KeepsAllBut, LetsNewGo, part_in}
use Rattle.hss_directory.specs.Places.{OnlyReads}
use Rattle.hss_directory.specs.Values.{IsReadable}
use Rattle.seal_laws.specs.Worlds.{HoldsNone, HoldsSame, IsClosed, NowHolds, World, key_part, used_part}

-- An index of the key of a directory, and the message that it signed.
pub record IndexUse : Type 0 where
  pub dir : List ℕ
  pub index : ℕ
  pub message : List ℕ

-- Nothing but the part Peers of a directory is touched.
pub record TouchesPeers (before : ShelfState) (dir : List ℕ) (after : ShelfState) : Type 0 where
  pub tells : after.tells ≡ before.tells
  pub others : IsTrue before.tells → KeepsAllBut (Peers ∷ []) dir before after

-- An act, with the index that signed in it, if one did. The key of a directory is taken and opened, or is not; a key is made, or is not; an open key
-- signs by its least index that is not used, or its disk fails; or it is put back. Peers may be read or written, and any part be read.
pub data Acts : World → List IndexUse → World → Type 0 where
  takes : (old new : World) (dir : List ℕ) (key : KeyState) → IsClosed old dir → TakesKey old.shelf dir key new.shelf → NowHolds old dir (Some key) new → Acts old [] new
  takes_none : (old new : World) (dir : List ℕ) → IsClosed old dir → LetsKeyGo old.shelf dir new.shelf → HoldsSame old new → Acts old [] new
  makes : (old new : World) (dir : List ℕ) (key : KeyState) (secret : SecretData) → IsClosed old dir → MakesKey secret old.shelf dir key new.shelf → NowHolds old dir (Some key) new
      → Acts old [] new
  makes_none : (old new : World) (dir payload filling : List ℕ) → IsClosed old dir → LetsNewGo Key Used payload filling old.shelf dir new.shelf → HoldsSame old new → Acts old [] new
  signs : (old new : World) (dir : List ℕ) (key next : KeyState) (index : ℕ) (message : List ℕ) → old.held dir ≡ Some key → Reserves key (Ok index) next → NowHolds old dir (Some next) new
      → new.shelf ≡ old.shelf → Acts old (record { dir = dir; index = index; message = message } ∷ []) new
  fails : (old new : World) (dir : List ℕ) (key next : KeyState) (why : Reserve) → old.held dir ≡ Some key → Reserves key (Err why) next → NowHolds old dir (Some next) new
      → new.shelf ≡ old.shelf → Acts old [] new
  puts_back : (old new : World) (dir : List ℕ) (key : KeyState) → old.held dir ≡ Some key → PutsKey old.shelf dir key.parts new.shelf → IsReadable key → NowHolds old dir None new
      → Acts old [] new
  touches_peers : (old new : World) (dir : List ℕ) → TouchesPeers old.shelf dir new.shelf → HoldsSame old new → Acts old [] new
  only_reads : (old new : World) → OnlyReads old.shelf new.shelf → HoldsSame old new → Acts old [] new

-- the moment that a part is at, where it is there
abbrev pub moment_of : PartState → List Moment
moment_of absent = []
moment_of out = []
moment_of (stands part) = part.now ∷ []

-- The part stands, on a disk of its own, as a crash left it at a moment from the old state to the new one.
pub record IsPartLeft (old new after : PartState) : Type 0 where
  pub disk : DiskState
  pub there : after ≡ stands disk
  pub tells : IsTrue disk.tells
  pub settled : IsSettled disk
  pub since : List Moment
  pub follow : moments_of new ≡ since ++ moments_of old
  pub moment : SomeImage (since ++ moment_of old) disk.seen

-- A part that was not there may still be missing. Nothing is said of one that no key of the world holds and that is handed out.
abbrev pub MayBeLeft : PartState → PartState → PartState → Type 0
MayBeLeft absent new after = (after ≡ absent) ⊎ IsPartLeft absent new after
MayBeLeft out new after = Unit {0}
MayBeLeft (stands part) new after = IsPartLeft (stands part) new after

-- What a crash leaves, each part at a moment of its own from the old world to the new one. No key is open afterwards.
pub record IsLeft (old new after : World) : Type 0 where
  pub tells : IsTrue after.shelf.tells
  pub none : HoldsNone after
  pub key : (dir : List ℕ) → MayBeLeft (key_part old dir) (key_part new dir) (part_in after.shelf dir Key)
  pub used : (dir : List ℕ) → MayBeLeft (used_part old dir) (used_part new dir) (part_in after.shelf dir Used)
