-- The key of a directory, as it is taken from a shelf, made, and put back.
use Rattle.std.specs.Prelude.{◌≡◌, ◌≢◌, ◌⊎◌, ℕ, ◌+◌, List, [], ◌∷◌, IsTrue, Option, Some, None}
use Rattle.bec_disk.specs.Disk.{DiskState, EveryImage, LeavesOnly, LeavesSince, handed_out}
use Rattle.bec_disk.specs.Images.{IsTorn}
use Rattle.bec_disk.specs.Gated.{gated_of}
use Rattle.bec_disk.specs.declared.gated.Gated.TheVariants.{Absent}
use Rattle.bec_disk.specs.declared.part.Part.TheVariants.{Key, Used}
use Rattle.bec_disk.specs.Shelf.{PartState, ShelfState, moments_of, out, stands}
use Rattle.bec_disk.specs.Slot.{slot}
use Rattle.key_index.specs.KeyState.{KeyParts, KeyState}
use Rattle.key_index.specs.Opening.{AreOfKey, AreOfNoKey}
use Rattle.key_index.specs.Reserving.{Tries}
use Rattle.key_index.specs.Used.{IsUsed, used_in}
use Rattle.lms_tree.specs.SecretKey.{SecretData}
use Rattle.key_directory.specs.declared.key_refusal.KeyRefusal.{KeyRefusal}
use Rattle.key_directory.specs.declared.key_refusal.KeyRefusal.TheVariants.{NoKey, BadKey, DiskFault, Memory}
use Rattle.key_directory.specs.Parts.{IfStands, IsHanded, IsUntouched, KeepsAllBut, part_in, reading}
use Rattle.key_index.specs.Creating.{CreatesKey}
use Rattle.key_index.specs.declared.faults.CreateKeyKind.{CreateKeyKind}
use Rattle.key_index.specs.declared.faults.CreateKeyKind.TheVariants as creating_key

-- The two parts read as this key.
abbrev pub ReadsAsKey : Option (List ℕ) → Option (List ℕ) → SecretData → Type 0
ReadsAsKey (Some key) (Some used) secret = AreOfKey key used secret
ReadsAsKey (Some key) None secret = ⊥
ReadsAsKey None used secret = ⊥

-- There is no part Key, or it is absent behind its gate.
abbrev pub IsNoKey : Option (List ℕ) → Type 0
IsNoKey None = Unit {0}
IsNoKey (Some key) = gated_of key ≡ Absent

-- The part Key is not absent, and there is no part Used beside it, or the two are of no key.
abbrev pub IsBadKey : Option (List ℕ) → Option (List ℕ) → Type 0
IsBadKey None used = ⊥
IsBadKey (Some key) None = gated_of key ≢ Absent
IsBadKey (Some key) (Some used) = AreOfNoKey key used

-- Both parts stood in the directory. They are handed out, as the key that they read as; nothing was written.
pub record TakesKey (before : ShelfState) (dir : List ℕ) (key : KeyState) (after : ShelfState) : Type 0 where
  pub tells : after.tells ≡ before.tells
  pub key_tells : key.parts.key.tells ≡ before.tells
  pub used_tells : key.parts.used.tells ≡ before.tells
  pub key_part : IsTrue before.tells → (part : DiskState) × (part_in before dir Key ≡ stands part) × (key.parts.key ≡ handed_out (slot dir Key) part)
  pub used_part : IsTrue before.tells → (part : DiskState) × (part_in before dir Used ≡ stands part) × (key.parts.used ≡ handed_out (slot dir Used) part)
  pub reads : IsTrue before.tells → ReadsAsKey (reading (part_in before dir Key)) (reading (part_in before dir Used)) key.secret
  pub taken : IsTrue before.tells → key.taken ≡ used_in key.parts.used.seen
  pub tried : key.tried ≡ None
  pub key_out : IsTrue before.tells → part_in after dir Key ≡ out
  pub used_out : IsTrue before.tells → part_in after dir Used ≡ out
  pub others : KeepsAllBut (Key ∷ Used ∷ []) dir before after

-- No key was taken: every part is in its place, and was at most read.
pub record LetsKeyGo (before : ShelfState) (dir : List ℕ) (after : ShelfState) : Type 0 where
  pub tells : after.tells ≡ before.tells
  pub key_part : IsTrue before.tells → IsUntouched (part_in before dir Key) (part_in after dir Key)
  pub used_part : IsTrue before.tells → IsUntouched (part_in before dir Used) (part_in after dir Used)
  pub others : IsTrue before.tells → KeepsAllBut (Key ∷ Used ∷ []) dir before after

-- Why no key was taken of two parts, by what they read as.
abbrev pub IsKeyRefusalCause : Option (List ℕ) → Option (List ℕ) → KeyRefusal → Type 0
IsKeyRefusalCause key used NoKey = IsNoKey key
IsKeyRefusalCause key used BadKey = IsBadKey key used
IsKeyRefusalCause key used DiskFault = Unit {0}
IsKeyRefusalCause key used Memory = Unit {0}

-- Why no key was taken of a directory.
abbrev pub IsKeyCause : ShelfState → List ℕ → KeyRefusal → Type 0
IsKeyCause shelf dir why = IsKeyRefusalCause (reading (part_in shelf dir Key)) (reading (part_in shelf dir Used)) why

-- Both parts stand in their places again, as these disks.
pub record PutsKey (before : ShelfState) (dir : List ℕ) (parts : KeyParts) (after : ShelfState) : Type 0 where
  pub tells : after.tells ≡ before.tells
  pub key_back : IsTrue before.tells → part_in after dir Key ≡ stands parts.key
  pub used_back : IsTrue before.tells → part_in after dir Used ≡ stands parts.used
  pub others : IsTrue before.tells → KeepsAllBut (Key ∷ Used ∷ []) dir before after

-- What a run that tries at most one index does to the part Used: it reads as before, or the byte of one index alone was written; and an index
-- that reads as used stays so, whatever a crash leaves at each moment.
pub record KeepsUsed (old new : PartState) : Type 0 where
  pub reads : IsUntouched old new ⊎ IfStands old (λ before. IfStands new (λ after. (index : ℕ) × IsTorn index (index + 1) before.seen after.seen))
  pub used : (index : ℕ) → IfStands old (λ before. IsUsed index before.seen)
      → LeavesSince (moments_of old) (moments_of new) (IsUsed index) × IfStands new (λ after. IsUsed index after.seen)

-- What calls that sign at most once have done to a key that was taken: nothing, or one index was tried. An index that each crash left used
-- stays so at each moment.
pub record WorksWith (taken now : KeyState) : Type 0 where
  pub tried : (now ≡ taken) ⊎ ((index : ℕ) × Tries taken index now)
  pub used : (index : ℕ) → (IsTrue taken.parts.used.tells → EveryImage taken.parts.used.now (IsUsed index)) → LeavesOnly taken.parts.used now.parts.used (IsUsed index)

-- A key was made of two parts, which are handed out. No index of it is used.
pub record MakesKey (secret : SecretData) (before : ShelfState) (dir : List ℕ) (store : KeyState) (after : ShelfState) : Type 0 where
  pub tells : after.tells ≡ before.tells
  pub key_tells : store.parts.key.tells ≡ before.tells
  pub used_tells : store.parts.used.tells ≡ before.tells
  pub created : IsTrue before.tells → (parts : KeyParts)
      × IsHanded (slot dir Key) (part_in before dir Key) parts.key
      × IsHanded (slot dir Used) (part_in before dir Used) parts.used
      × CreatesKey secret parts store
  pub key_out : IsTrue before.tells → part_in after dir Key ≡ out
  pub used_out : IsTrue before.tells → part_in after dir Used ≡ out
  pub others : KeepsAllBut (Key ∷ Used ∷ []) dir before after

-- Why no key was made, by what the part Key reads as.
abbrev pub IsNewKeyCause : Option (List ℕ) → CreateKeyKind → Type 0
IsNewKeyCause key creating_key.KeyThere = IsNoKey key → ⊥
IsNewKeyCause key creating_key.DiskFault = Unit {0}
IsNewKeyCause key creating_key.Memory = Unit {0}
