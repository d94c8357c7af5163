-- What creating a key answers and leaves.
use Rattle.std.specs.Prelude.{◌≡◌, ◌≢◌, ◌⊎◌, ℕ, false, IsTrue, List, Result, OnOk, OnErr, replicate, None}
use Rattle.rand_core.specs.Stream.{Stream, fill_bytes}
use Rattle.bec_disk.specs.Disk.{DiskState, IsSameDisk, IsSettled, LeavesOnly}
use Rattle.bec_disk.specs.Gated.{IsOldOrNew, gated_of, whole_of}
use Rattle.bec_disk.specs.declared.gated.Gated.TheVariants.{Absent}
use Rattle.lm_ots.specs.declared.ots_type.OtsType.{OtsType}
use Rattle.lms_tree.specs.LmsKind.{leaf_count}
use Rattle.lms_tree.specs.SecretKey.{SecretData}
use Rattle.lms_tree.specs.declared.lms_type.LmsType.{LmsType}
use Rattle.key_index.specs.KeyState.{KeyParts, KeyState, AreLater, AreSame, OneRose}
use Rattle.key_index.specs.Payload.{payload_of}
use Rattle.key_index.specs.Used.{none_used}
use Rattle.key_index.specs.declared.faults.CreateKeyKind.{CreateKeyKind}
use Rattle.key_index.specs.declared.faults.CreateKeyKind.TheVariants.{DiskFault, KeyThere}

-- The key of these types whose I is the next 16 bytes of a generator, and whose SEED the 32 bytes after them.
abbrev pub drawn_key : LmsType → OtsType → Stream → SecretData
drawn_key lms ots random = record { lms = lms; ots = ots; ident = (fill_bytes 16 random).0; start = (fill_bytes 32 (fill_bytes 16 random).1).0 }

-- The generator after these two draws.
abbrev pub after_draw : Stream → Stream
after_draw random = (fill_bytes 32 (fill_bytes 16 random).1).1

-- The disk reads as these bytes, and a crash leaves them.
pub record IsOnDisk (bytes : List ℕ) (disk : DiskState) : Type 0 where
  pub seen : disk.seen ≡ bytes
  pub settled : IsSettled disk

-- Writing this payload as the part Key, after n bytes that are 0 as the part Used.
pub record WritesParts {T E : Type 0} (payload : List ℕ) (n : ℕ) (old : KeyParts) (result : Result T E) (new : KeyParts) : Type 0 where
  pub any_moment : LeavesOnly old.key new.key (IsOldOrNew old.key.seen payload)
  pub order : IsTrue old.used.tells → (new.key ≡ old.key) ⊎ IsOnDisk (none_used n) new.used
  pub used_disk : IsSameDisk old.used new.used
  pub key : IsTrue old.key.tells → OnOk result (IsOnDisk (whole_of payload) new.key)
  pub used : IsTrue old.used.tells → OnOk result (IsOnDisk (none_used n) new.used)
  pub later : AreLater old new
  pub failed : OnErr result (OneRose old new)

-- Creating this key, whatever it answers. Where the part Key is there, nothing is written. A crash at any moment leaves Key standing for
-- what it stood for, or absent, or with this key. Key is left alone until each byte of the part Used is 0 on the disk.
pub record Creating (secret : SecretData) (old new : KeyParts) : Type 0 where
  pub there : IsTrue old.key.tells → gated_of old.key.seen ≢ Absent → AreSame old new
  pub any_moment : LeavesOnly old.key new.key (IsOldOrNew old.key.seen (payload_of secret))
  pub order : IsTrue old.used.tells → (new.key ≡ old.key) ⊎ IsOnDisk (none_used (leaf_count secret.lms)) new.used
  pub used_disk : IsSameDisk old.used new.used
  pub later : AreLater old new

-- The key was created. No index of it is used.
pub record CreatesKey (secret : SecretData) (old : KeyParts) (store : KeyState) : Type 0 where
  pub creating : Creating secret old store.parts
  pub absent : IsTrue old.key.tells → gated_of old.key.seen ≡ Absent
  pub made : store.secret ≡ secret
  pub key : IsTrue old.key.tells → IsOnDisk (whole_of (payload_of secret)) store.parts.key
  pub used : IsTrue old.used.tells → IsOnDisk (none_used (leaf_count secret.lms)) store.parts.used
  pub taken : store.taken ≡ replicate (leaf_count secret.lms) false
  pub tried : store.tried ≡ None

-- No key was created, for this cause. Unless a disk failed, nothing was written.
pub record RefusesToCreate (secret : SecretData) (old : KeyParts) (why : CreateKeyKind) (new : KeyParts) : Type 0 where
  pub creating : Creating secret old new
  pub key_there : IsTrue old.key.tells → why ≡ KeyThere → gated_of old.key.seen ≢ Absent
  pub same : why ≢ DiskFault → AreSame old new
  pub disk_fault : why ≡ DiskFault → OneRose old new
