-- What a store of one-time keys has.
use Rattle.std.specs.Prelude.{◌≡◌, ◌⊎◌, ℕ, ◌≤◌, Bool, IsTrue, List, Option, Some, None, MatchOption}
use Rattle.bec_bytes.specs.Causes.{Rose}
use Rattle.bec_disk.specs.Disk.{DiskState, IsSettled}
use Rattle.lms_tree.specs.SecretKey.{SecretData}
use Rattle.key_index.specs.Used.{IsGreatest}

-- The disks of the parts Key and Used, each with its count of faults.
pub record KeyParts : Type 0 where
  pub key : DiskState
  pub key_faults : ℕ
  pub used : DiskState
  pub used_faults : ℕ

-- Two disks as such parts, where `state` and `faults` are what a disk has.
abbrev pub parts_of : {D : Type 0} → (D → DiskState) → (D → ℕ) → D → D → KeyParts
parts_of state faults key used = record { key = state key; key_faults = faults key; used = state used; used_faults = faults used }

-- The parts, the key, for each of its indices whether it is used in this store, and the one that a reservation of this store tried last.
pub record KeyState : Type 0 where
  pub parts : KeyParts
  pub secret : SecretData
  pub taken : List Bool
  pub tried : Option ℕ

-- A store over two disks, of which no reservation has tried an index.
abbrev pub store_of : {D : Type 0} → (D → DiskState) → (D → ℕ) → D → D → SecretData → List Bool → KeyState
store_of state faults key used secret taken = record { parts = parts_of state faults key used; secret = secret; taken = taken; tried = None }

-- Both disks tell what they have.
abbrev pub AreTold : KeyParts → Type 0
AreTold parts = IsTrue parts.key.tells × IsTrue parts.used.tells

-- Nothing was written or cut on either disk since its last sync, or its handing out.
pub record AreSettled (parts : KeyParts) : Type 0 where
  pub key_settled : IsTrue parts.key.tells → IsSettled parts.key
  pub used_settled : IsTrue parts.used.tells → IsSettled parts.used

-- Neither count of faults has fallen.
pub record AreLater (old new : KeyParts) : Type 0 where
  pub key_later : old.key_faults ≤ new.key_faults
  pub used_later : old.used_faults ≤ new.used_faults

-- One of the counts of faults rose.
abbrev pub OneRose : KeyParts → KeyParts → Type 0
OneRose old new = Rose old.key_faults new.key_faults ⊎ Rose old.used_faults new.used_faults

-- Nothing was written or cut.
pub record AreSame (old new : KeyParts) : Type 0 where
  pub key_same : new.key ≡ old.key
  pub used_same : new.used ≡ old.used

-- The index that a reservation of this store tried last, and where none tried one the greatest that is used.
abbrev pub IsLast : KeyState → Option ℕ → Type 0
IsLast store found = MatchOption store.tried (IsGreatest store.taken found) (λ index. found ≡ Some index)
