-- How many numbers pass a test.
use Rattle.std.specs.Prelude.{ℕ, zero, suc, ◌+◌, Bool}
use Rattle.table_model.specs.Counts.{one_where}

-- of the numbers below this one
unfoldable pub count_to : (ℕ → Bool) → ℕ → ℕ
count_to test zero = 0
count_to test (suc n) = count_to test n + one_where (test n)
