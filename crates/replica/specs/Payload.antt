-- What the parts of a store stand for.
use Rattle.std.specs.Prelude.{◌≡◌, ◌≢◌, ℕ, List, ◌++◌, length}
use Rattle.bec_disk.specs.Gated.{gated_of}
use Rattle.bec_disk.specs.declared.gated.Gated.TheVariants.{Absent, Whole}
use Rattle.schema.specs.Data.{Meaning, SchemaData}
use Rattle.confluence_test.specs.Taking.{TakesSchema}

-- The part Schema is whole, and its payload is the id of a node, of 32 bytes, and the text of a schema whose invariants all
-- survive merging.
pub record DeclaresStore (ask : Meaning) (part : List ℕ) (node : List ℕ) (schema : SchemaData) : Type 0 where
  pub whole : gated_of part ≡ Whole (node ++ schema.text)
  pub size : length node ≡ 32
  pub taken : TakesSchema ask schema.text schema

-- The part Schema is not absent, and declares no store.
pub record DeclaresNone (ask : Meaning) (part : List ℕ) : Type 0 where
  pub there : gated_of part ≢ Absent
  pub none : (node : List ℕ) (schema : SchemaData) → DeclaresStore ask part node schema → ⊥

-- A payload is the id of a node, of 32 bytes, and the text of this schema.
pub record DeclaresBoth (ask : Meaning) (payload : List ℕ) (node : List ℕ) (schema : SchemaData) : Type 0 where
  pub payload_is : payload ≡ node ++ schema.text
  pub size : length node ≡ 32
  pub taken : TakesSchema ask schema.text schema
