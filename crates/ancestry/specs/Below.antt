-- Numbers below a bound that pass a test.
use Rattle.std.specs.Prelude.{◌||◌, ℕ, zero, suc, Bool, false, cond, ltb}

-- whether a number below the second passes
unfoldable pub any_below : (ℕ → Bool) → ℕ → Bool
any_below t zero = false
any_below t (suc n) = t n || any_below t n

-- how many numbers below the second pass
unfoldable pub count_below : (ℕ → Bool) → ℕ → ℕ
count_below t zero = 0
count_below t (suc n) = cond (t n) (suc (count_below t n)) (count_below t n)

-- the least number below the second that passes; where none does, the second
unfoldable pub first_below : (ℕ → Bool) → ℕ → ℕ
first_below t zero = 0
first_below t (suc n) = cond (ltb (first_below t n) n) (first_below t n) (cond (t n) n (suc n))
