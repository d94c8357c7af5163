-- What is left of a slice, and how the fields of it are taken.
use Rattle.std.specs.Prelude.{◌≡◌, ℕ, ◌+◌, ◌<◌, ◌≤◌, List, length, MatchOption, take, drop, slice_index}
use Rattle.std.specs.Int.{Width, byte_len, from_be_bytes}
use Rattle.std.specs.declared.option.Option.{Option}
use Rattle.std.specs.Borrow.{Bor}

-- The offset, and the bytes from there on.
pub record Reading : Type 0 where
  pub place : ℕ
  pub rest : List ℕ

-- n bytes were taken.
pub record Advances (n : ℕ) (old new : Reading) : Type 0 where
  pub fits : n ≤ length old.rest
  pub place : new.place ≡ old.place + n
  pub rest : new.rest ≡ drop n old.rest

-- The next n bytes, or `None` where fewer are left, and then nothing is taken.
abbrev pub TakesBytes : ℕ → Reading → Reading → Option (Bor (List ℕ)) → Type 0
TakesBytes n old new result = MatchOption result
    ((length old.rest < n) × (new ≡ old))
    (λ bytes. Advances n old new × (bytes.now ≡ take n old.rest))

-- The next byte, or `None` where none is left.
abbrev pub TakesByte : Reading → Reading → Option ℕ → Type 0
TakesByte old new result = MatchOption result
    ((length old.rest < 1) × (new ≡ old))
    (λ byte. Advances 1 old new × (byte ≡ slice_index old.rest 0))

-- The number of this width that the next bytes spell, high byte first, or `None` where too few are left.
abbrev pub TakesNumber : Width → Reading → Reading → Option ℕ → Type 0
TakesNumber w old new result = MatchOption result
    ((length old.rest < byte_len w) × (new ≡ old))
    (λ number. Advances (byte_len w) old new × (number ≡ from_be_bytes w (take (byte_len w) old.rest)))
