-- Why a replica is not created.
use Rattle.std.specs.Prelude.{ℕ, List}
use Rattle.confluence_test.specs.Taking.{RefusesSchema}
use Rattle.confluence_test.specs.declared.refusal.SchemaRefusal.TheVariants as refusals
use Rattle.replica.specs.declared.create_fault.CreateKind.{CreateKind}
use Rattle.replica.specs.declared.create_fault.CreateKind.TheVariants as creating
use Rattle.schema.specs.Data.{Meaning, SchemaData}
use Rattle.schema_text.specs.declared.fault.SchemaFault.{SchemaFault}
use Rattle.table_model.specs.declared.counterexample.Counterexample.{Counterexample}
use Rattle.table_model.specs.declared.invariant.Invariant.{Invariant}
use Rattle.world_rules.specs.declared.fault.SiteFault.{SiteFault}
use Rattle.world_rules.specs.declared.fault.SiteFault.TheVariants.{BadSchema, NotConfluent, Memory}

-- The text declares no schema, or an invariant of the schema does not survive merging. Want of memory has its cause in nothing.
abbrev pub IsSiteCause : Meaning → List ℕ → SiteFault → Type 0
IsSiteCause ask text BadSchema = (fault : SchemaFault) × RefusesSchema ask text (refusals.Schema fault)
IsSiteCause ask text NotConfluent =
    (declared : SchemaData) × (which : Invariant) × (example : Counterexample) × RefusesSchema ask text (refusals.NotConfluent declared which example)
IsSiteCause ask text Memory = Unit {0}

-- what a fault of creating a store is here
abbrev pub cause_of : CreateKind → SiteFault
cause_of creating.NotEmpty = Memory
cause_of (creating.BadSchema fault) = BadSchema
cause_of (creating.NotConfluent declared which example) = NotConfluent
cause_of creating.DiskFault = Memory
cause_of creating.Memory = Memory
