-- What opening a key answers.
use Rattle.std.specs.Prelude.{◌≡◌, ◌≢◌, ℕ, IsTrue, List, length, None}
use Rattle.bec_disk.specs.Gated.{gated_of}
use Rattle.bec_disk.specs.declared.gated.Gated.TheVariants.{Absent, Whole}
use Rattle.lms_tree.specs.LmsKind.{leaf_count}
use Rattle.lms_tree.specs.SecretKey.{SecretData}
use Rattle.key_index.specs.KeyState.{KeyParts, KeyState, AreLater, AreSame, AreTold, OneRose}
use Rattle.key_index.specs.Payload.{IsPayload}
use Rattle.key_index.specs.Used.{used_in}
use Rattle.key_index.specs.declared.faults.KeyFaultKind.{KeyFaultKind}
use Rattle.key_index.specs.declared.faults.KeyFaultKind.TheVariants.{DiskFault, BadKeyFile, NoKey}

-- The part Key is whole, and its payload is that of this key.
pub record Holds (key : List ℕ) (secret : SecretData) : Type 0 where
  pub payload : List ℕ
  pub whole : gated_of key ≡ Whole payload
  pub is_payload : IsPayload payload secret

-- The part Key is damaged, or its payload is that of no key.
pub record HoldsNone (key : List ℕ) : Type 0 where
  pub there : gated_of key ≢ Absent
  pub no_secret : (secret : SecretData) → Holds key secret → ⊥

-- The part Key holds this key, and the part Used has a byte for each of its indices.
pub record AreOfKey (key used : List ℕ) (secret : SecretData) : Type 0 where
  pub holds : Holds key secret
  pub size : length used ≡ leaf_count secret.lms

-- The part Key is there, and the two parts are of no key.
pub record AreOfNoKey (key used : List ℕ) : Type 0 where
  pub there : gated_of key ≢ Absent
  pub no_key : (secret : SecretData) → AreOfKey key used secret → ⊥

-- The key that the parts are of was opened, with the indices that the part Used has used. Nothing was written.
pub record OpensKey (old : KeyParts) (store : KeyState) : Type 0 where
  pub same : AreSame old store.parts
  pub later : AreLater old store.parts
  pub holds : IsTrue old.key.tells → Holds old.key.seen store.secret
  pub size : IsTrue old.used.tells → length old.used.seen ≡ leaf_count store.secret.lms
  pub taken : IsTrue old.used.tells → store.taken ≡ used_in old.used.seen
  pub tried : store.tried ≡ None

-- No key was opened, for this cause. Nothing was written.
pub record RefusesToOpen (old : KeyParts) (why : KeyFaultKind) (new : KeyParts) : Type 0 where
  pub same : AreSame old new
  pub later : AreLater old new
  pub no_key : AreTold old → why ≡ NoKey → gated_of old.key.seen ≡ Absent
  pub bad_file : AreTold old → why ≡ BadKeyFile → AreOfNoKey old.key.seen old.used.seen
  pub disk_fault : why ≡ DiskFault → OneRose old new
