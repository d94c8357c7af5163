-- From what the test of a schema's invariants tells to what is told of its text.
use Rattle.std.proofs.Common.{◌≡◌, ◌∙◌, ◌⊎◌, inl, inr, ℕ, true, List, [], ◌∷◌, refl, sym, ap, arith, Contains, IsTrue}
use Rattle.std.proofs.lemmas.Bool.{and_parts}
use Rattle.table_model.specs.declared.counterexample.Counterexample.{Counterexample}
use Rattle.table_model.specs.declared.invariant.Invariant.{Invariant}
use Rattle.confluence_laws.specs.Confluence.{IsConfluent, accepts, are_accepted, confirms}
use Rattle.table_model.specs.Invariants.{Claim, Declared, claims_of, invariants_of}
use Rattle.schema.specs.Data.{Meaning, SchemaData}
use Rattle.schema_text.specs.Schemas.{Declares}
use Rattle.schema.specs.Sound.{AreTables}
use Rattle.table_model.specs.Visible.{Rules, rules_with}
use Rattle.confluence_test.specs.Tests.{IsRefused, IsTested}
use Rattle.schema_text.specs.declared.fault.SchemaError.{SchemaError}
use Rattle.schema_text.specs.declared.fault.SchemaError.TheVariants as errors
use Rattle.schema_text.specs.Outcome.{HasCause}
use Rattle.confluence_test.specs.declared.tested.Tested.TheVariants.{Accepted, Refused}
use Rattle.confluence_test.specs.declared.refusal.SchemaRefusal.{SchemaRefusal}
use Rattle.confluence_test.specs.declared.refusal.SchemaRefusal.TheVariants.{Memory, NotConfluent}
use Rattle.confluence_test.specs.Refusing.{from_reading}
use Rattle.confluence_test.specs.Taking.{TakesSchema, RefusesSchema, fault, not_confluent}
use Rattle.table_model.proofs.Members.{contains_cases}

-- an invariant of those that are all accepted is accepted
accepted_each : (rules : Rules) (declared : List Declared) (d : Declared) → are_accepted rules declared ≡ true → Contains declared d → accepts rules d.claim ≡ true
accepted_each rules [] d all c = let low = c.1 in absurd (omega arith)
accepted_each rules (e ∷ es) d all c =
    let parts = and_parts (accepts rules e.claim) (are_accepted rules es) all in
    elim (contains_cases e d es c) [
      | inl here ↦ ap (λ (x : Declared). accepts rules x.claim) (sym here) ∙ parts.0
      | inr later ↦ accepted_each rules es d parts.1 later
    ]

-- what is known of invariants that are accepted and of one that is refused
pub record TestLaws : Type 0 where
  pub confluent : (rules : Rules) (earlier : List Claim) (declared : Declared) → AreTables [] rules.tables
      → Contains (invariants_of rules) declared → IsTrue (accepts rules declared.claim) → IsConfluent rules earlier declared.claim
  pub confirmed : (relation : Meaning) (text : List ℕ) (schema : SchemaData) (which : Invariant) (example : Counterexample)
      → Declares relation text schema → (refused : IsRefused (record { tables = schema.tables; ask = relation }) which example)
      → IsTrue (confirms (record { tables = schema.tables; ask = relation }) (claims_of refused.earlier) refused.declared.claim example)

pub takes : TestLaws → (ask : Meaning) (text : List ℕ) (schema : SchemaData) → Declares ask text schema → AreTables [] schema.tables → IsTested (rules_with ask schema.tables) Accepted
    → TakesSchema ask text schema
takes laws ask text schema declares sound accepted =
    let rules = rules_with ask schema.tables in
    record {
      declares = declares;
      accepted = accepted;
      confluent = λ earlier d c. laws.confluent rules earlier d sound c (accepted_each rules (invariants_of rules) d accepted c);
    }

pub refuses : TestLaws → (ask : Meaning) (text : List ℕ) (schema : SchemaData) (which : Invariant) (example : Counterexample) → Declares ask text schema
    → IsTested (rules_with ask schema.tables) (Refused which example) → RefusesSchema ask text (NotConfluent schema which example)
refuses laws ask text schema which example declares tested =
    not_confluent schema which example declares (record { refused = tested; confirmed = laws.confirmed ask text schema which example declares tested }) refl

-- what errors of reading become
pub faulty : (ask : Meaning) (text : List ℕ) (error : SchemaError) (refusal : SchemaRefusal) → HasCause ask text error → refusal ≡ from_reading error → RefusesSchema ask text refusal ⊎ (refusal ≡ Memory)
faulty ask text (errors.Fault first) refusal cause is = inl (fault first cause is)
faulty ask text errors.Memory refusal cause is = inr is
