-- What an act does.
use Rattle.std.specs.Prelude.{◌≡◌, ◌≢◌, ℕ, ◌+◌, Bool, true, false, List, ◌++◌, length, drop, All, Some, Result, Ok, Err}
use mathlib.Core.List.{IsPrefix}
use Rattle.shared_replica.specs.declared.entry.Entry.{Entry}
use Rattle.shared_replica.specs.Entries.{Story, entries_by, maker_of, IsStoreOf}
use Rattle.replica.specs.Replicas.{ReplicaState}
use Rattle.replica.specs.declared.make_fault.MakeFault.{MakeFault}
use Rattle.replica.specs.declared.make_fault.MakeFault.TheVariants.{NotListed, TooManyHeads, Invalid, TooLong, Full, Spent, Taken, DiskFault, Memory}
use Rattle.replica.specs.declared.make_fault.Side.TheVariants.{Key, Log}
use Rattle.turn_lock.specs.Seats.{Known}
use Rattle.update_model.specs.declared.update_id.UpdateId.{UpdateId}

-- whether the log's disk failed while an update was made
abbrev pub met_fault : Result UpdateId MakeFault → Bool
met_fault (Ok id) = false
met_fault (Err NotListed) = false
met_fault (Err (TooManyHeads n)) = false
met_fault (Err (Invalid reason operation)) = false
met_fault (Err (TooLong len)) = false
met_fault (Err Full) = false
met_fault (Err Spent) = false
met_fault (Err (Taken id)) = false
met_fault (Err (DiskFault Key)) = false
met_fault (Err (DiskFault Log)) = true
met_fault (Err Memory) = false

-- A stored replica grows by the updates that an act adds, and its list by them and by the fault that it met.
pub record Grows (old new : Story) (seat act : ℕ) (fault : Bool) : Type 0 where
  pub added : List (List ℕ)
  pub members : new.store.history.members ≡ old.store.history.members ++ added
  pub entries : new.entries ≡ old.entries ++ entries_by seat act added fault
  pub before : IsStoreOf old.entries old.store
  pub after : IsStoreOf new.entries new.store

-- An act had its turn where the list was P, which begins with what the pass had seen, has no entry of this act, and behind what the pass had seen none of this seat. The replica
-- was as P says, and is as the list says that has the act's own entries behind.
pub record IsAct (before after : Known Entry) (P : List Entry) (old new : ReplicaState) (fault : Bool) : Type 0 where
  pub same_lock : after.lock ≡ before.lock
  pub began : IsPrefix before.seen P
  pub counted : after.acts ≡ before.acts + 1
  pub named : (n : ℕ) → before.number ≡ Some n → after.number ≡ Some n
  pub seat : ℕ
  pub number : after.number ≡ Some seat
  pub others : after.others ≡ before.others
  pub unused : All (λ e. maker_of e ≢ Some (seat, after.acts)) P
  pub alone : All (λ e. (act : ℕ) → maker_of e ≢ Some (seat, act)) (drop (length before.seen) P)
  pub added : List (List ℕ)
  pub members : new.history.members ≡ old.history.members ++ added
  pub ended : after.seen ≡ P ++ entries_by seat after.acts added fault
  pub stood : IsStoreOf P old
  pub stands : IsStoreOf after.seen new
