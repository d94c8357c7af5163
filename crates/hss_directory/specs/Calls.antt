-- What the calls of a two-level key do.
use Rattle.std.specs.Prelude.{◌≡◌, ◌⊎◌, ℕ, List, Option, Some, None, IsTrue}
use Rattle.rand_core.specs.Stream.{Stream}
use Rattle.bec_disk.specs.declared.part.Part.TheVariants.{Key, Used}
use Rattle.bec_disk.specs.Shelf.{ShelfState}
use Rattle.lms_tree.specs.SecretKey.{SecretData, public_key}
use Rattle.key_index.specs.KeyState.{KeyState}
use Rattle.key_directory.specs.Keys.{IsBadKey, IsNoKey, MakesKey, PutsKey, TakesKey}
use Rattle.key_directory.specs.Parts.{part_in, reading}
use Rattle.bec_bytes.specs.Causes.{Rose}
use Rattle.hss_chain.specs.Sealing.{seal_bytes}
use Rattle.hss_directory.specs.Lower.{MakesLower, RefusesLower}
use Rattle.hss_directory.specs.Opening.{FindsLower, IsUnfoundCause}
use Rattle.hss_directory.specs.Signing.{SignsBy, SignsNone}
use Rattle.hss_directory.specs.Places.{AreHome, Holds, KeepsElse}
use Rattle.hss_directory.specs.Values.{HasLeft, HssState, IsSound, IsSpent, LowerState}
use Rattle.hss_directory.specs.declared.fault.HssFault.{HssFault}
use Rattle.hss_directory.specs.declared.fault.HssFault.TheVariants.{Disk, KeyThere, NoKey, BadKey, Spent, Memory}

-- a two-level key of these parts
abbrev pub hss_of : List ℕ → KeyState → Option LowerState → HssState
hss_of dir top lower = record { dir = dir; top = top; lower = lower }

-- The top key was drawn and made in its directory. No index is used, and there is no lower key yet.
pub record CreatesHss (secret : SecretData) (before : ShelfState) (dir : List ℕ) (hss : HssState) (after : ShelfState) : Type 0 where
  pub place : hss.dir ≡ dir
  pub makes : MakesKey secret before dir hss.top after
  pub alone : hss.lower ≡ None

-- The top key was taken from its directory, and then the current lower key from its own.
pub record OpensHss (before : ShelfState) (dir : List ℕ) (hss : HssState) (after : ShelfState) : Type 0 where
  pub mid : ShelfState
  pub place : hss.dir ≡ dir
  pub takes : TakesKey before dir hss.top mid
  pub finds : FindsLower dir hss.top mid hss.lower after

-- The lower key that is held, where one is, is put back.
abbrev pub PutsLower : ShelfState → Option LowerState → ShelfState → Type 0
PutsLower before None after = after ≡ before
PutsLower before (Some lower) after = PutsKey before lower.dir lower.key.parts after

-- Both keys are put back.
pub record PutsHss (before : ShelfState) (hss : HssState) (after : ShelfState) : Type 0 where
  pub mid : ShelfState
  pub lower : PutsLower before hss.lower mid
  pub top : PutsKey mid hss.dir hss.top.parts after

-- A lower key that has an index left is kept, and one that is spent is put back.
abbrev pub KeepsUnspent : ShelfState → Option LowerState → Option LowerState → ShelfState → Type 0
KeepsUnspent before None None after = after ≡ before
KeepsUnspent before None (Some kept) after = ⊥
KeepsUnspent before (Some lower) None after = IsSpent lower.key × PutsKey before lower.dir lower.key.parts after
KeepsUnspent before (Some lower) (Some kept) after = HasLeft lower.key × (kept ≡ lower) × (after ≡ before)

-- What is done where a lower key was kept, and where none was: the next one is made.
abbrev pub KeepsOrMakes : Stream → ShelfState → HssState → Option LowerState → HssState → ShelfState → Stream → Type 0
KeepsOrMakes random mid old (Some kept) new after left = (new ≡ hss_of old.dir old.top (Some kept)) × (after ≡ mid) × (left ≡ random)
KeepsOrMakes random mid old None new after left = (lower : LowerState) × (new ≡ hss_of old.dir new.top (Some lower)) × MakesLower random mid old.dir old.top lower new.top after left

-- There is a current lower key with an index left: the one that was there, or where there was none or it is spent, the next one.
pub record Readies (random : Stream) (before : ShelfState) (old new : HssState) (after : ShelfState) (left : Stream) : Type 0 where
  pub kept : Option LowerState
  pub mid : ShelfState
  pub keeps : KeepsUnspent before old.lower kept mid
  pub ready : KeepsOrMakes random mid old kept new after left

-- There was none or it is spent, and the next one was not made.
pub record RefusesToReady (random : Stream) (before : ShelfState) (old : HssState) (why : HssFault) (new : HssState) (after : ShelfState) (left : Stream) : Type 0 where
  pub mid : ShelfState
  pub keeps : KeepsUnspent before old.lower None mid
  pub refuses : RefusesLower random mid old.dir old.top why new.top after left
  pub now : new ≡ hss_of old.dir new.top None

-- The lower key signed the message by its least index that is not used, and the seal is of that signature.
pub record SealsBy (old : LowerState) (random : Stream) (msg seal : List ℕ) (new : LowerState) (left : Stream) : Type 0 where
  pub sig : List ℕ
  pub signs : SignsBy old.key random msg sig new.key left
  pub seal_is : seal ≡ seal_bytes old.top_sig (public_key old.key.secret) sig
  pub now : new ≡ record old { key = new.key }

-- It sealed nothing: it signed nothing, or memory ran out behind its signature, which is lost.
pub data SealsNone (old : LowerState) (random : Stream) (msg : List ℕ) (why : HssFault) (new : LowerState) (left : Stream) : Type 0 where
  unsigned : SignsNone old.key random why new.key left → new ≡ record old { key = new.key } → SealsNone old random msg why new left
  unjoined : (sig : List ℕ) → SignsBy old.key random msg sig new.key left → why ≡ Memory → new ≡ record old { key = new.key } → SealsNone old random msg why new left

-- The message was sealed: the current lower key, readied where need be, signed it.
pub record Signs (random : Stream) (before : ShelfState) (old : HssState) (msg seal : List ℕ) (new : HssState) (after : ShelfState) (left : Stream) : Type 0 where
  pub ready : HssState
  pub between : Stream
  pub readies : Readies random before old ready after between
  pub lower : LowerState
  pub is_lower : ready.lower ≡ Some lower
  pub signed : LowerState
  pub seals : SealsBy lower between msg seal signed left
  pub now : new ≡ hss_of ready.dir ready.top (Some signed)

-- It was not: no lower key was readied, or the one that was sealed nothing.
pub data RefusesToSign (random : Stream) (before : ShelfState) (old : HssState) (msg : List ℕ) (why : HssFault) (new : HssState) (after : ShelfState) (left : Stream) : Type 0 where
  not_ready : RefusesToReady random before old why new after left → RefusesToSign random before old msg why new after left
  not_sealed : (ready : HssState) (between : Stream) (lower signed : LowerState) → Readies random before old ready after between → ready.lower ≡ Some lower
      → SealsNone lower between msg why signed left → new ≡ hss_of ready.dir ready.top (Some signed) → RefusesToSign random before old msg why new after left

-- A two-level key of this directory is open, and holds its parts. No part but those of the key is touched.
pub record BeginsHss (before : ShelfState) (dir : List ℕ) (hss : HssState) (after : ShelfState) : Type 0 where
  pub tells : after.tells ≡ before.tells
  pub place : hss.dir ≡ dir
  pub sound : IsSound hss
  pub holds : IsTrue before.tells → Holds after hss
  pub others : IsTrue before.tells → KeepsElse dir before after

-- It stays one, of the same key, and holds its parts.
pub record KeepsHss (before : ShelfState) (old : HssState) (after : ShelfState) (new : HssState) : Type 0 where
  pub tells : after.tells ≡ before.tells
  pub place : new.dir ≡ old.dir
  pub secret : new.top.secret ≡ old.top.secret
  pub sound : IsSound new
  pub holds : IsTrue before.tells → Holds after new
  pub others : IsTrue before.tells → KeepsElse old.dir before after

-- Its parts are in their places.
pub record EndsHss (before : ShelfState) (dir : List ℕ) (after : ShelfState) : Type 0 where
  pub tells : after.tells ≡ before.tells
  pub home : IsTrue before.tells → AreHome after dir
  pub others : IsTrue before.tells → KeepsElse dir before after

-- Why a two-level key was not opened.
abbrev pub IsOpeningCause : ShelfState → List ℕ → HssFault → Type 0
IsOpeningCause shelf dir NoKey = IsNoKey (reading (part_in shelf dir Key))
IsOpeningCause shelf dir BadKey = IsBadKey (reading (part_in shelf dir Key)) (reading (part_in shelf dir Used))
    ⊎ ((top : KeyState) × ((mid : ShelfState) × (TakesKey shelf dir top mid × IsUnfoundCause mid dir top BadKey)))
IsOpeningCause shelf dir Disk = Unit {0}
IsOpeningCause shelf dir Memory = Unit {0}
IsOpeningCause shelf dir KeyThere = ⊥
IsOpeningCause shelf dir Spent = ⊥

-- A count of a disk that the value holds rose in the call: of the top key's part Used, or of the lower key's, which begins at its taking.
abbrev pub LowerRose : Option LowerState → Type 0
LowerRose None = ⊥
LowerRose (Some lower) = (was : ℕ) × Rose was lower.key.parts.used_faults

abbrev pub HeldRose : HssState → HssState → Type 0
HeldRose old new = Rose old.top.parts.used_faults new.top.parts.used_faults ⊎ LowerRose new.lower
