-- What a reservation of an index answers and leaves.
use Rattle.std.specs.Prelude.{◌≡◌, ◌≢◌, ℕ, ◌+◌, ◌≤◌, true, IsTrue, IsNone, IfOk, IsErrOf, MatchOption, Result, Ok, Err, Some, ◌↔◌, slice_set}
use Rattle.bec_bytes.specs.Causes.{Rose}
use Rattle.bec_disk.specs.Disk.{DiskState, EveryImage, IsSameDisk, IsSettled, LeavesOnly}
use Rattle.bec_disk.specs.Images.{IsTornFrom}
use Rattle.key_index.specs.Used.{IsUsed, IsUnused, least_unused}
use Rattle.key_index.specs.KeyState.{KeyState}
use Rattle.key_index.specs.declared.reserve.Reserve.{Reserve}
use Rattle.key_index.specs.declared.reserve.Reserve.TheVariants.{Spent, DiskFault}

-- The index is used in the store from then on. A crash at any moment changes no other byte of Used, and nothing but Used changes.
pub record Tries (old : KeyState) (index : ℕ) (new : KeyState) : Type 0 where
  pub taken : new.taken ≡ slice_set old.taken index true
  pub tried : new.tried ≡ Some index
  pub only : LeavesOnly old.parts.used new.parts.used (IsTornFrom old.parts.used.now index (index + 1))
  pub key : new.parts.key ≡ old.parts.key
  pub key_faults : new.parts.key_faults ≡ old.parts.key_faults
  pub secret : new.secret ≡ old.secret

-- The byte of the index was 0 whatever a crash would have left. It is 1, it is on the disk, and a crash from then on leaves the index used.
pub record IsReserved (old : DiskState) (index : ℕ) (new : DiskState) : Type 0 where
  pub fresh : EveryImage old.now (IsUnused index)
  pub written : new.seen ≡ slice_set old.seen index 1
  pub settled : IsSettled new
  pub used : EveryImage new.now (IsUsed index)

-- A reservation tries the least index that is not used in the store, and answers it or a fault of the disk. Where there is none it
-- answers Spent, and nothing changes. An index that each crash leaves used is not answered, and stays so at each moment.
pub record Reserves (old : KeyState) (result : Result ℕ Reserve) (new : KeyState) : Type 0 where
  pub least : IfOk result (λ index. least_unused old.taken ≡ Some index)
  pub spent : (result ≡ Err Spent) ↔ IsNone (least_unused old.taken)
  pub tries : MatchOption (least_unused old.taken) (new ≡ old) (λ index. Tries old index new)
  pub reserved : IsTrue old.parts.used.tells → IfOk result (λ index. IsReserved old.parts.used index new.parts.used)
  pub not_again : IsTrue old.parts.used.tells → (index : ℕ) → EveryImage old.parts.used.now (IsUsed index) → result ≢ Ok index
  pub kept : (index : ℕ) → (IsTrue old.parts.used.tells → EveryImage old.parts.used.now (IsUsed index)) → LeavesOnly old.parts.used new.parts.used (IsUsed index)
  pub disk : IsSameDisk old.parts.used new.parts.used
  pub later : old.parts.used_faults ≤ new.parts.used_faults
  pub failed : IsErrOf result DiskFault → Rose old.parts.used_faults new.parts.used_faults
