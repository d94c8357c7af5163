-- What `confirm` answers.
use Rattle.std.specs.Prelude.{◌≡◌, ℕ, List, Err}
use Rattle.std.specs.declared.option.Option.{Option}
use Rattle.update_model.specs.declared.author_key.AuthorKey.{AuthorKey}
use Rattle.schema_verdict.specs.Inputs.{IsWholeText}
use Rattle.schema_verdict.specs.Verdict.{Prints}
use Rattle.audit_text.specs.Certificates.{HoldsDoubled, HoldsNone}
use Rattle.audit_text.specs.Texts.{doubled_text}
use Rattle.audit_text.specs.declared.certificate.TheConstants.{MAX_CERTIFICATE_BYTES}
use Rattle.outcomes.specs.declared.refusal.Refusal.TheVariants.{NotDoubled}
use Rattle.outcomes.specs.Outcome.{Outcome}

-- The whole input is the records of two updates that are doubled, and their key and index are printed; or it is not, and is refused.
pub data ConfirmAnswer (before after : Option (List ℕ)) (outcome : Outcome) : Type 0 where
  confirmed : (input : List ℕ) (key : AuthorKey) (index : ℕ) → IsWholeText MAX_CERTIFICATE_BYTES before after input → HoldsDoubled input key index
      → Prints outcome (doubled_text key index) → ConfirmAnswer before after outcome
  refused : (input : List ℕ) → IsWholeText MAX_CERTIFICATE_BYTES before after input → HoldsNone input → outcome ≡ Err NotDoubled → ConfirmAnswer before after outcome
