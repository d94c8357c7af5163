-- Numbers of native checks.
use Rattle.std.specs.Prelude.{ℕ, ◌^◌, ℤ, pos, negsuc, nat_lt, Option, Some, None, if◌then◌else◌}

-- from 0 to 65,535
abbrev pub small_number : ℤ → Option ℕ
small_number (pos n) = if nat_lt n (2 ^ 16) then Some n else None
small_number (negsuc n) = None
