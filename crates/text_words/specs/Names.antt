-- Names.
use Rattle.std.specs.Prelude.{ℕ, Bool, false, ◌&&◌, ◌||◌, ◌==◌, nat_le, List, [], ◌∷◌, length}
use Rattle.std.specs.Char.{is_ascii_lowercase, is_ascii_digit}
use Rattle.std.specs.List.{list_all}

-- a letter `a` to `z`, a digit or `_`
abbrev pub is_name_byte : ℕ → Bool
is_name_byte byte = is_ascii_lowercase byte || is_ascii_digit byte || byte == 95

-- bytes of names, of which the first is a letter: a name of whatever length
abbrev pub is_spelled_as_name : List ℕ → Bool
is_spelled_as_name [] = false
is_spelled_as_name (first ∷ rest) = is_ascii_lowercase first && list_all is_name_byte rest

-- a name: so spelled, and at most 32 bytes
abbrev pub is_a_name : List ℕ → Bool
is_a_name bytes = nat_le (length bytes) 32 && is_spelled_as_name bytes
