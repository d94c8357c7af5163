-- Counts of faults over several calls.
use Rattle.std.proofs.Common.{ℕ, ◌≤◌, arith, Result, Ok, Err}
use Rattle.std.specs.Prelude.{OnOk}
use Rattle.bec_bytes.specs.Causes.{HasCause, Rose}

-- a count that rose has risen from any earlier one
pub rose_since : (first before now : ℕ) → first ≤ before → Rose before now → Rose first now
rose_since first before now earlier rose = omega arith

-- a call failed, and what follows it answers nothing else
pub cause_failed : {T E : Type 0} (result : Result T E) (first before now : ℕ) → first ≤ before → before ≤ now → Rose before now → HasCause first now result
cause_failed (Ok value) first before now earlier later rose = record { later = omega arith; failed = tt }
cause_failed (Err error) first before now earlier later rose = record { later = omega arith; failed = rose_since first before now earlier rose }

-- the last call's cause, where the calls before it went well
pub cause_since : {T E : Type 0} (result : Result T E) (first before now : ℕ) → first ≤ before → HasCause before now result → HasCause first now result
cause_since (Ok value) first before now earlier cause = record { later = omega (arith, cause.later); failed = tt }
cause_since (Err error) first before now earlier cause = record { later = omega (arith, cause.later); failed = rose_since first before now earlier cause.failed }

-- what an `Ok` says gives more
pub on_ok : {T E A B : Type 0} (result : Result T E) → (A → B) → OnOk result A → OnOk result B
on_ok (Ok value) more is = more is
on_ok (Err error) more is = tt
