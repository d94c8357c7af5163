-- The next lower key: taken or made, signed by the top key, and vouched for in its directory.
use Rattle.std.specs.Prelude.{◌≡◌, ◌⊎◌, ◌++◌, ℕ, List, Option, Some, None, IsTrue}
use Rattle.rand_core.specs.Stream.{Stream}
use Rattle.update_model.specs.declared.author_key.AuthorKey.{AuthorKey}
use Rattle.bec_disk.specs.declared.part.Part.TheVariants.{Key, Used}
use Rattle.bec_disk.specs.Shelf.{ShelfState}
use Rattle.lm_ots.specs.declared.ots_type.OtsType.{OtsType}
use Rattle.lms_tree.specs.declared.lms_type.LmsType.{LmsType}
use Rattle.lms_tree.specs.LmsKind.{leaf_count}
use Rattle.lms_tree.specs.SecretKey.{public_key}
use Rattle.key_index.specs.Creating.{after_draw, drawn_key}
use Rattle.key_index.specs.KeyState.{KeyState}
use Rattle.key_index.specs.Payload.{payload_of}
use Rattle.key_index.specs.Used.{least_unused, none_used}
use Rattle.key_directory.specs.Keys.{IsBadKey, IsNoKey, LetsKeyGo, MakesKey, PutsKey, TakesKey}
use Rattle.key_directory.specs.Parts.{LetsNewGo, part_in, reading}
use Rattle.hss_chain.specs.Keys.{key_bytes}
use Rattle.hss_directory.specs.Peers.{HasPeers, WritesPeers}
use Rattle.hss_directory.specs.Signing.{SignsBy, SignsNone}
use Rattle.hss_directory.specs.Values.{HasLeft, HssState, IsSpent, LowerState, low_dir, vouching_bytes}
use Rattle.hss_directory.specs.declared.fault.HssFault.{HssFault}
use Rattle.hss_directory.specs.declared.fault.HssFault.TheVariants.{Disk, KeyThere, NoKey, BadKey, Spent, Memory}

-- The key of a directory was taken; or there was none, and one of these types was drawn and made.
pub data TakesLower (lms : LmsType) (ots : OtsType) (random : Stream) (before : ShelfState) (dir : List ℕ) (key : KeyState) (after : ShelfState) (left : Stream) : Type 0 where
  taken : TakesKey before dir key after → left ≡ random → TakesLower lms ots random before dir key after left
  made : (mid : ShelfState) → LetsKeyGo before dir mid → (IsTrue before.tells → IsNoKey (reading (part_in before dir Key)))
      → MakesKey (drawn_key lms ots random) mid dir key after → left ≡ after_draw random → TakesLower lms ots random before dir key after left

-- Why no lower key was taken or made, by what the parts of its directory read as.
abbrev pub IsLowerCause : Option (List ℕ) → Option (List ℕ) → HssFault → Type 0
IsLowerCause key used BadKey = IsBadKey key used
IsLowerCause key used Disk = Unit {0}
IsLowerCause key used Memory = Unit {0}
IsLowerCause key used KeyThere = ⊥
IsLowerCause key used NoKey = ⊥
IsLowerCause key used Spent = ⊥

-- None was taken, and every part is in its place and was at most read; or none was made where there was none.
pub data LetsLowerGo (lms : LmsType) (ots : OtsType) (random : Stream) (before : ShelfState) (dir : List ℕ) (why : HssFault) (after : ShelfState) (left : Stream) : Type 0 where
  not_taken : LetsKeyGo before dir after → (IsTrue before.tells → IsLowerCause (reading (part_in before dir Key)) (reading (part_in before dir Used)) why) → left ≡ random
      → LetsLowerGo lms ots random before dir why after left
  not_made : (mid : ShelfState) → LetsKeyGo before dir mid → (IsTrue before.tells → IsNoKey (reading (part_in before dir Key)))
      → LetsNewGo Key Used (payload_of (drawn_key lms ots random)) (none_used (leaf_count lms)) mid dir after
      → (IsTrue before.tells → (why ≡ Disk) ⊎ (why ≡ Memory)) → (left ≡ random) ⊎ (left ≡ after_draw random)
      → LetsLowerGo lms ots random before dir why after left

-- No key with an index left was taken or made: none was; or one was taken that is spent, and was put back.
pub data OpensNoLower (lms : LmsType) (ots : OtsType) (random : Stream) (before : ShelfState) (dir : List ℕ) (why : HssFault) (after : ShelfState) (left : Stream) : Type 0 where
  opens_none : LetsLowerGo lms ots random before dir why after left → OpensNoLower lms ots random before dir why after left
  opens_spent : (key : KeyState) (mid : ShelfState) → why ≡ BadKey → TakesLower lms ots random before dir key mid left → IsSpent key → PutsKey mid dir key.parts after
      → OpensNoLower lms ots random before dir why after left

-- The top key signed this key, and its signature and the key stand whole in the part Peers of the directory.
pub record Vouches (random : Stream) (before : ShelfState) (dir : List ℕ) (top : KeyState) (low : AuthorKey) (sig : List ℕ) (new : KeyState) (after : ShelfState) (left : Stream) : Type 0 where
  pub signs : SignsBy top random (key_bytes low) sig new left
  pub writes : WritesPeers (sig ++ key_bytes low) before dir after
  pub has : IsTrue before.tells → HasPeers (sig ++ key_bytes low) after dir

-- The top key signed nothing, and nothing was written; or its index was used, and the part Peers may not be whole.
pub data VouchesNot (random : Stream) (before : ShelfState) (dir : List ℕ) (top : KeyState) (low : AuthorKey) (why : HssFault) (new : KeyState) (after : ShelfState) (left : Stream) : Type 0 where
  unsigned : SignsNone top random why new left → after ≡ before → VouchesNot random before dir top low why new after left
  unwritten : (sig : List ℕ) → SignsBy top random (key_bytes low) sig new left → (why ≡ Disk) ⊎ (why ≡ Memory)
      → (after ≡ before) ⊎ WritesPeers (sig ++ key_bytes low) before dir after → VouchesNot random before dir top low why new after left

-- The lower key of the least top index that is not used: it was taken or made with the top key's types, has an index left, was signed by that
-- index, and is vouched for in its directory.
pub record MakesLower (random : Stream) (before : ShelfState) (dir : List ℕ) (top : KeyState) (lower : LowerState) (new : KeyState) (after : ShelfState) (left : Stream) : Type 0 where
  pub mid : ShelfState
  pub between : Stream
  pub index : least_unused top.taken ≡ Some lower.index
  pub place : lower.dir ≡ low_dir dir lower.index
  pub takes : TakesLower top.secret.lms top.secret.ots random before lower.dir lower.key mid between
  pub has_left : HasLeft lower.key
  pub vouches : Vouches between mid lower.dir top (public_key lower.key.secret) lower.top_sig new after left

-- No lower key was made, and none is held. The top key is spent; or memory ran out before anything was done; or no key was taken or made in the
-- directory of the least top index that is not used, or the one there is spent; or it was not vouched for, and was put back.
pub data RefusesLower (random : Stream) (before : ShelfState) (dir : List ℕ) (top : KeyState) (why : HssFault) (new : KeyState) (after : ShelfState) (left : Stream) : Type 0 where
  top_spent : why ≡ Spent → IsSpent top → new ≡ top → after ≡ before → left ≡ random → RefusesLower random before dir top why new after left
  no_memory : why ≡ Memory → new ≡ top → after ≡ before → left ≡ random → RefusesLower random before dir top why new after left
  refuses_key : (index : ℕ) → least_unused top.taken ≡ Some index → OpensNoLower top.secret.lms top.secret.ots random before (low_dir dir index) why after left → new ≡ top
      → RefusesLower random before dir top why new after left
  no_vouching : (index : ℕ) (key : KeyState) (mid done : ShelfState) (between : Stream) → least_unused top.taken ≡ Some index
      → TakesLower top.secret.lms top.secret.ots random before (low_dir dir index) key mid between → HasLeft key
      → VouchesNot between mid (low_dir dir index) top (public_key key.secret) why new done left → PutsKey done (low_dir dir index) key.parts after
      → RefusesLower random before dir top why new after left
