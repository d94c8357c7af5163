-- What making an update does to the key.
use Rattle.std.specs.Prelude.{◌≡◌, ◌⊎◌, ℕ, IsTrue, Option, None, Some, Result, Ok, Err}
use Rattle.update_model.specs.declared.update_id.UpdateId.{UpdateId}
use Rattle.key_index.specs.KeyState.{KeyState}
use Rattle.key_index.specs.Reserving.{IsReserved, Tries}
use Rattle.key_index.specs.Used.{least_unused}
use Rattle.replica.specs.declared.make_fault.MakeFault.{MakeFault}
use Rattle.replica.specs.declared.make_fault.MakeFault.TheVariants.{NotListed, TooManyHeads, Invalid, TooLong, Full, Spent, Taken, DiskFault, Memory}
use Rattle.replica.specs.declared.make_fault.Side.TheVariants.{Key, Log}

-- The least index that was not used was tried: it is used in the store from then on, and nothing else of the key changed.
pub record TriesLeast (old new : KeyState) : Type 0 where
  pub index : ℕ
  pub least : least_unused old.taken ≡ Some index
  pub tries : Tries old index new

-- It was answered, so one message was signed at it. It is on the disk as used.
pub record SignsAtLeast (old new : KeyState) : Type 0 where
  pub index : ℕ
  pub least : least_unused old.taken ≡ Some index
  pub tries : Tries old index new
  pub reserved : IsTrue old.parts.used.tells → IsReserved old.parts.used index new.parts.used

-- Where an update was made, or its id is taken, or the log's disk failed, one message was signed. Where the key's disk failed an index was tried.
-- With every other answer the key is as it was; want of memory may come before or after the signature.
abbrev pub KeyAfter : {T : Type 0} → KeyState → Result T MakeFault → KeyState → Type 0
KeyAfter old (Ok made) new = SignsAtLeast old new
KeyAfter old (Err NotListed) new = new ≡ old
KeyAfter old (Err (TooManyHeads n)) new = new ≡ old
KeyAfter old (Err (Invalid reason operation)) new = new ≡ old
KeyAfter old (Err (TooLong len)) new = new ≡ old
KeyAfter old (Err Full) new = new ≡ old
KeyAfter old (Err Spent) new = new ≡ old
KeyAfter old (Err (Taken id)) new = SignsAtLeast old new
KeyAfter old (Err (DiskFault Key)) new = TriesLeast old new
KeyAfter old (Err (DiskFault Log)) new = SignsAtLeast old new
KeyAfter old (Err Memory) new = (new ≡ old) ⊎ SignsAtLeast old new

-- The same where nothing may have been made.
abbrev pub KeyAfterJoin : KeyState → Result (Option UpdateId) MakeFault → KeyState → Type 0
KeyAfterJoin old (Ok None) new = new ≡ old
KeyAfterJoin old (Ok (Some id)) new = SignsAtLeast old new
KeyAfterJoin old (Err why) new = KeyAfter {T = UpdateId} old (Err why) new
