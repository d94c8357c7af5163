-- What is read of a bundle.
use Rattle.std.specs.Prelude.{◌≡◌, ℕ, List, Option, Some}
use Rattle.confluence_test.specs.Taking.{RefusesSchema, TakesSchema}
use Rattle.confluence_test.specs.declared.refusal.SchemaRefusal.{SchemaRefusal}
use Rattle.node_commands.specs.Bundle.{HoldsText, LacksText}
use Rattle.outcomes.specs.declared.refusal.Refusal.{Refusal}
use Rattle.outcomes.specs.declared.refusal.Refusal.TheVariants.{Record}
use Rattle.outcomes.specs.Outcome.{from_taking}
use Rattle.row_check.specs.Checksum.{is_luhn}
use Rattle.schema.specs.Data.{SchemaData}
use Rattle.update_stream.specs.declared.reading.Reading.TheVariants.{Whole, Refused}
use Rattle.update_stream.specs.declared.record_fault.RecordFault.{RecordFault}
use Rattle.update_stream.specs.Told.{Reads}

-- A bundle declares this schema, and what follows it is a stream under its rule, whose graph has these members.
pub data BundleHeld (before after : Option (List ℕ)) (schema : SchemaData) (members : List (List ℕ)) : Type 0 where
  held : (declared : List ℕ) (mid : Option (List ℕ)) → HoldsText before mid declared → TakesSchema is_luhn declared schema → Reads (Some schema.rule) mid after (Whole members)
      → BundleHeld before after schema members

-- A bundle lacks the text of a schema; or that is refused, and no more is read; or a record behind it is refused.
pub data BundleRefused (before after : Option (List ℕ)) (refusal : Refusal) : Type 0 where
  lacks : LacksText before after refusal → BundleRefused before after refusal
  refused : (declared : List ℕ) (why : SchemaRefusal) → HoldsText before after declared → RefusesSchema is_luhn declared why → refusal ≡ from_taking why → BundleRefused before after refusal
  stopped : (declared : List ℕ) (mid : Option (List ℕ)) (schema : SchemaData) (n : ℕ) (fault : RecordFault) → HoldsText before mid declared → TakesSchema is_luhn declared schema
      → Reads (Some schema.rule) mid after (Refused n fault) → refusal ≡ Record n fault → BundleRefused before after refusal
