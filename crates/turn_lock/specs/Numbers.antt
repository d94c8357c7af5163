-- Numbers of seats.
use Rattle.std.specs.Prelude.{◌≢◌, ℕ, List, [], ◌∷◌, Option, Some, None, All}

-- the number, where there is one
abbrev pub number_in : Option ℕ → List ℕ
number_in None = []
number_in (Some n) = n ∷ []

-- no two of these are one
abbrev pub AreApart : List ℕ → Type 0
AreApart [] = Unit {0}
AreApart (n ∷ ns) = All (λ m. m ≢ n) ns × AreApart ns
