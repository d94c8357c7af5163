-- What a recording keeps of what its source gave.
use Rattle.std.specs.Prelude.{◌≡◌, ℕ, ◌≤◌, Bool, true, false, List, [], take, Result, Ok, Err}
use Rattle.std.specs.declared.option.Option.{Option}

-- What the source tells and counts, the bytes that are kept and how many these may be, and whether memory ran out.
pub record RecordingState : Type 0 where
  pub left : Option (List ℕ)
  pub faults : ℕ
  pub kept : List ℕ
  pub limit : ℕ
  pub is_over : Bool

-- What is kept of the bytes that were given: as many of the first ones as the limit allows, or where memory ran out, at
-- most so many.
abbrev pub IsFrontWithin : ℕ → Bool → List ℕ → List ℕ → Type 0
IsFrontWithin limit false kept given = kept ≡ take limit given
IsFrontWithin limit true kept given = (n : ℕ) × (n ≤ limit) × (kept ≡ take n given)

-- these are the bytes that the source gave since the recording was made
abbrev pub HasKept : RecordingState → List ℕ → Type 0
HasKept state given = IsFrontWithin state.limit state.is_over state.kept given

-- what a call gave into a buffer
abbrev pub given_by : {E : Type 0} → Result ℕ E → List ℕ → List ℕ
given_by (Ok count) buf = take count buf
given_by (Err fault) buf = []
