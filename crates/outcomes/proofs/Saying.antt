-- What is said of a refusal.
use Rattle.std.proofs.Common.{ℕ, ◌≤◌, arith}
use Rattle.bec_bytes.specs.Causes.{Rose}

-- a count that rose since a later moment rose since an earlier one
pub rose_later : (old mid new : ℕ) → old ≤ mid → Rose mid new → Rose old new
rose_later old mid new later rose = omega (arith, later, rose)
