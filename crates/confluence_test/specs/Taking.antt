-- What is said of the text of a schema.
use Rattle.std.specs.Prelude.{◌≡◌, ℕ, List, Contains, IsTrue}
use Rattle.schema_text.specs.declared.fault.SchemaFault.{SchemaFault}
use Rattle.schema.specs.Data.{Meaning, SchemaData}
use Rattle.schema_text.specs.Schemas.{Declares, FirstFault}
use Rattle.table_model.specs.declared.counterexample.Counterexample.{Counterexample}
use Rattle.table_model.specs.declared.invariant.Invariant.{Invariant}
use Rattle.confluence_laws.specs.Confluence.{IsConfluent, are_accepted, confirms}
use Rattle.table_model.specs.Invariants.{Claim, Declared, claims_of, invariants_of}
use Rattle.table_model.specs.Visible.{Rules, rules_with}
use Rattle.confluence_test.specs.Tests.{IsRefused}
use Rattle.confluence_test.specs.declared.refusal.SchemaRefusal.{SchemaRefusal}
use Rattle.confluence_test.specs.declared.refusal.SchemaRefusal.TheVariants.{Schema, NotConfluent}

-- This invariant is the first that does not survive merging, and the counterexample shows it: both of its sides are closed
-- and satisfy every invariant up to this one, and both together break it.
pub record IsRefuted (rules : Rules) (which : Invariant) (example : Counterexample) : Type 0 where
  pub refused : IsRefused rules which example
  pub confirmed : IsTrue (confirms rules (claims_of refused.earlier) refused.declared.claim example)

-- The text declares this schema, where native checks mean this, and each of its invariants is accepted: it survives merging.
pub record TakesSchema (ask : Meaning) (text : List ℕ) (schema : SchemaData) : Type 0 where
  pub declares : Declares ask text schema
  pub accepted : IsTrue (are_accepted (rules_with ask schema.tables) (invariants_of (rules_with ask schema.tables)))
  pub confluent : (earlier : List Claim) (declared : Declared) → Contains (invariants_of (rules_with ask schema.tables)) declared
      → IsConfluent (rules_with ask schema.tables) earlier declared.claim

-- Why a text is refused: its first fault, or the first invariant that does not survive merging.
pub data RefusesSchema (ask : Meaning) (text : List ℕ) (refusal : SchemaRefusal) : Type 0 where
  fault : (first : SchemaFault) → FirstFault ask text first.kind first.line → refusal ≡ Schema first → RefusesSchema ask text refusal
  not_confluent : (schema : SchemaData) (which : Invariant) (example : Counterexample) → Declares ask text schema
      → IsRefuted (rules_with ask schema.tables) which example → refusal ≡ NotConfluent schema which example → RefusesSchema ask text refusal
