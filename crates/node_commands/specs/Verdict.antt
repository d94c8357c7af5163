-- What `check` answers.
use Rattle.std.specs.Prelude.{ℕ, List}
use Rattle.std.specs.declared.option.Option.{Option}
use Rattle.schema_verdict.specs.Verdict.{CheckAnswer as IsVerdict}
use Rattle.outcomes.specs.Outcome.{Outcome, from_taking}

-- A text declares a schema whose invariants all survive merging, or it is refused.
abbrev pub CheckAnswer : Option (List ℕ) → Option (List ℕ) → Outcome → Type 0
CheckAnswer before after outcome = IsVerdict from_taking before after outcome
