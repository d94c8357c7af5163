-- What a source gave and a sink took, where that is told.
use Rattle.std.specs.Prelude.{◌≡◌, ℕ, ◌<◌, ◌≤◌, List, length, take, Some, IfSome, Result, MatchResult}
use Rattle.std.specs.declared.option.Option.{Option}
use Rattle.std.specs.Io.KnownBytes.{Consumes, Appends, IsAtEnd}

-- At `Ok(n)` the source gave the n bytes that the buffer begins with, and fewer than it holds only at its end.
-- At an `Err` it gave some of them.
abbrev pub FillsFrom : {E : Type 0} → Option (List ℕ) → Option (List ℕ) → Result ℕ E → List ℕ → Type 0
FillsFrom before after result buf = MatchResult result
    (λ n. Consumes before after (take n buf) × (n ≤ length buf) × (n < length buf → IsAtEnd after))
    (λ _. (n : ℕ) × (n ≤ length buf) × Consumes before after (take n buf))

-- At `Ok` the sink took all the bytes, and at an `Err` a front of them.
abbrev pub TakesAll : {T E : Type 0} → Option (List ℕ) → Option (List ℕ) → Result T E → List ℕ → Type 0
TakesAll before after result bytes = MatchResult result
    (λ _. Appends before after bytes)
    (λ _. (n : ℕ) × (n ≤ length bytes) × Appends before after (take n bytes))

-- This holds of the bytes that were left before and those that are left after, where the source tells them.
abbrev pub IfTold : Option (List ℕ) → Option (List ℕ) → (List ℕ → List ℕ → Type 0) → Type 0
IfTold before after P = IfSome before (λ bytes. (rest : List ℕ) × (after ≡ Some rest) × P bytes rest)
