-- Values that a function of the index gives.
use Rattle.std.specs.Prelude.{ℕ, List}
use Rattle.std.specs.List.{flat_map, range_with_len, sum_by}

-- the lists f 0 to f (n - 1), one after the other
unfoldable pub joined : (ℕ → List ℕ) → ℕ → List ℕ
joined f n = flat_map f (range_with_len 0 n)

-- the sum of f 0 to f (n - 1)
unfoldable pub sum_below : (ℕ → ℕ) → ℕ → ℕ
sum_below f n = sum_by f (range_with_len 0 n)
