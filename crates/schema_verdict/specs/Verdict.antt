-- The verdict on the text of a schema.
use Rattle.std.specs.Prelude.{◌≡◌, ◌⊎◌, ℕ, List, [], codes, Option, Result, Ok, Err, Vec}
use Rattle.std.specs.declared.alloc.Global.{Global}
use Rattle.bec_bytes.specs.Causes.{Rose}
use Rattle.bec_bytes.specs.declared.read_error.ReadError.{ReadError}
use Rattle.bec_bytes.specs.declared.read_error.ReadError.TheVariants as read_errors
use Rattle.row_check.specs.Checksum.{is_luhn}
use Rattle.confluence_test.specs.Taking.{RefusesSchema, TakesSchema}
use Rattle.confluence_test.specs.declared.refusal.SchemaRefusal.{SchemaRefusal}
use Rattle.confluence_test.specs.declared.refusal.SchemaRefusal.TheVariants.{Schema, NotConfluent, Memory}
use Rattle.schema.specs.Data.{SchemaData}
use Rattle.schema_text.specs.declared.limits.TheConstants.{MAX_SCHEMA_BYTES}
use Rattle.schema_verdict.specs.declared.refusal.VerdictRefusal.{VerdictRefusal}
use Rattle.schema_verdict.specs.declared.refusal.VerdictRefusal.TheVariants.{NotTaken, Stream}
use Rattle.schema_verdict.specs.Inputs.{IsWholeText}
use Rattle.schema_verdict.specs.Texts.{refused_text, schema_text}

-- A command is done and prints a text, or it is refused.
abbrev pub OutcomeOf : Type 0 → Type 0
OutcomeOf R = Result (Vec ℕ Global) R

-- the command is done, and prints this
abbrev pub Prints : {R : Type 0} → OutcomeOf R → List ℕ → Type 0
Prints (Ok text) bytes = text.items ≡ bytes
Prints (Err refusal) bytes = ⊥

-- The source has a text that declares a schema whose invariants all survive merging, or the text is refused, whatever type tells why.
pub data CheckAnswer {R : Type 0} (refusal_of : SchemaRefusal → R) (before after : Option (List ℕ)) (outcome : OutcomeOf R) : Type 0 where
  confluent : (text : List ℕ) (schema : SchemaData) → IsWholeText MAX_SCHEMA_BYTES before after text → TakesSchema is_luhn text schema
      → Prints outcome (codes "confluent\n") → CheckAnswer refusal_of before after outcome
  refused : (text : List ℕ) (why : SchemaRefusal) → IsWholeText MAX_SCHEMA_BYTES before after text → RefusesSchema is_luhn text why
      → outcome ≡ Err (refusal_of why) → CheckAnswer refusal_of before after outcome

-- the lines for why a text is not taken
abbrev pub text_for : SchemaRefusal → List ℕ
text_for (Schema fault) = schema_text fault
text_for (NotConfluent schema which example) = refused_text schema.tables which example
text_for Memory = []

-- the refusal that an error of reading becomes
abbrev pub from_reading : ReadError → VerdictRefusal
from_reading read_errors.Failed = Stream
from_reading read_errors.Memory = NotTaken Memory

-- What may come in place of a verdict: memory ran out, or the source failed, whose count of faults rose.
abbrev pub IsFault : ℕ → ℕ → VerdictRefusal → Type 0
IsFault old new refusal = (refusal ≡ NotTaken Memory) ⊎ ((refusal ≡ Stream) × Rose old new)
