-- What `unseal` answers to an input.
use Rattle.std.specs.Prelude.{◌≡◌, ℕ, ◌≤◌, List, codes, length, Err}
use Rattle.std.specs.declared.option.Option.{Option}
use Rattle.schema_verdict.specs.Inputs.{IsWholeText}
use Rattle.schema_verdict.specs.Verdict.{OutcomeOf, Prints}
use Rattle.hss_chain.specs.Sealing.{SealedBy}
use Rattle.seal_commands.specs.Inputs.{IsLongText}
use Rattle.seal_commands.specs.declared.reading.TheConstants.{INPUT_LIMIT}
use Rattle.seal_commands.specs.declared.refusal.SealRefusal.{SealRefusal}
use Rattle.seal_commands.specs.declared.refusal.SealRefusal.TheVariants.{BadSeal, InputTooLong}

-- a refusal told by its own type
abbrev pub as_it_is : SealRefusal → SealRefusal
as_it_is why = why

-- The seal is one of the whole input by this key, or it is none, or the input is too long; whatever type tells why.
pub data UnsealAnswer {R : Type 0} (refusal_of : SealRefusal → R) (key sig : List ℕ) (before after : Option (List ℕ)) (outcome : OutcomeOf R) : Type 0 where
  good : (msg : List ℕ) → IsWholeText INPUT_LIMIT before after msg → length msg ≤ INPUT_LIMIT → SealedBy key msg sig
      → Prints outcome (codes "good\n") → UnsealAnswer refusal_of key sig before after outcome
  bad : (msg : List ℕ) → IsWholeText INPUT_LIMIT before after msg → length msg ≤ INPUT_LIMIT → (SealedBy key msg sig → ⊥)
      → outcome ≡ Err (refusal_of BadSeal) → UnsealAnswer refusal_of key sig before after outcome
  too_long : IsLongText INPUT_LIMIT before after → outcome ≡ Err (refusal_of InputTooLong) → UnsealAnswer refusal_of key sig before after outcome
