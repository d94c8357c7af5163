-- A text declares one schema, and is sound.
use Rattle.std.proofs.Common.{◌≡◌, ℕ, List}
use Rattle.schema.specs.Data.{Meaning, SchemaData}
use Rattle.schema_text.specs.Schemas.{Declares}
use Rattle.schema.specs.Sound.{IsSchema}

-- What is known of the texts of schemas: the laws `one_schema` and `declared_is_sound`.
pub record SchemaLaws : Type 0 where
  pub one : (ask : Meaning) (text : List ℕ) (schema other : SchemaData) → Declares ask text schema → Declares ask text other → schema ≡ other
  pub sound : (ask : Meaning) (text : List ℕ) (schema : SchemaData) → Declares ask text schema → IsSchema schema
