-- When a subscriber wants to be told.
use Rattle.std.specs.Prelude.{ℕ, ◌+◌, Bool, nat_le}

-- a callback and its parameter
pub record WhenData (G : Type 0) : Type 0 where
  pub param : ℕ
  pub code : G

-- the counts of lines that went and came add up to at least the parameter
abbrev pub is_at_least : ℕ → ℕ → ℕ → Bool
is_at_least param went came = nat_le param (went + came)
