-- What making an update, or joining heads, does to the key.
use Rattle.std.proofs.Common.{◌≡◌, ◌⊎◌, inl, inr, ℕ, Option, None, Some, Result, Ok, Err}
use Rattle.key_index.specs.KeyState.{KeyState}
use Rattle.key_index.specs.Reserving.{Tries}
use Rattle.update_model.specs.declared.update_id.UpdateId.{UpdateId}
use Rattle.replica.specs.Signing.{KeyAfter, KeyAfterJoin}
use Rattle.replica.specs.declared.make_fault.MakeFault.{MakeFault}
use Rattle.replica.specs.declared.make_fault.MakeFault.TheVariants.{NotListed, TooManyHeads, Invalid, TooLong, Full, Spent, Taken, DiskFault, Memory}
use Rattle.replica.specs.declared.make_fault.Side.TheVariants.{Key as KeySide, Log as LogSide}

-- What making an update does to the key.
pub tried_by : {T : Type 0} → (old : KeyState) (result : Result T MakeFault) (new : KeyState) → KeyAfter old result new → (new ≡ old) ⊎ ((index : ℕ) × Tries old index new)
tried_by old (Ok made) new after = inr (after.index, after.tries)
tried_by old (Err NotListed) new after = inl after
tried_by old (Err (TooManyHeads n)) new after = inl after
tried_by old (Err (Invalid reason operation)) new after = inl after
tried_by old (Err (TooLong len)) new after = inl after
tried_by old (Err Full) new after = inl after
tried_by old (Err Spent) new after = inl after
tried_by old (Err (Taken id)) new after = inr (after.index, after.tries)
tried_by old (Err (DiskFault KeySide)) new after = inr (after.index, after.tries)
tried_by old (Err (DiskFault LogSide)) new after = inr (after.index, after.tries)
tried_by old (Err Memory) new (inl same) = inl same
tried_by old (Err Memory) new (inr signed) = inr (signed.index, signed.tries)

-- What joining heads does to it.
pub tried_by_joining : (old : KeyState) (result : Result (Option UpdateId) MakeFault) (new : KeyState) → KeyAfterJoin old result new → (new ≡ old) ⊎ ((index : ℕ) × Tries old index new)
tried_by_joining old (Ok None) new after = inl after
tried_by_joining old (Ok (Some id)) new after = inr (after.index, after.tries)
tried_by_joining old (Err why) new after = tried_by {T = UpdateId} old (Err why) new after
