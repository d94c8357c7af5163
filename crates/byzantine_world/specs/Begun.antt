-- How a world begins, and why there is none.
use Rattle.std.specs.Prelude.{◌≡◌, ◌⊎◌, ℕ, ◌<◌, false, All, List, length, Option, None}
use Rattle.confluence_test.specs.Taking.{RefusesSchema, TakesSchema}
use Rattle.confluence_test.specs.declared.refusal.SchemaRefusal.{SchemaRefusal}
use Rattle.confluence_test.specs.declared.refusal.SchemaRefusal.TheVariants as refusals
use Rattle.row_check.specs.Checksum.{is_luhn}
use Rattle.schema.specs.Data.{Meaning, SchemaData}
use Rattle.schema_text.specs.declared.fault.SchemaFault.{SchemaFault}
use Rattle.table_model.specs.declared.counterexample.Counterexample.{Counterexample}
use Rattle.table_model.specs.declared.invariant.Invariant.{Invariant}
use Rattle.lms_tree.specs.declared.seed.KeyTypes.{KeyTypes}
use Rattle.byzantine_world.specs.Codes.{ShowsWorld, WorldCode}
use Rattle.byzantine_world.specs.declared.talk.Talk.{Talk}
use Rattle.byzantine_world.specs.declared.world_fault.WorldFault.{WorldFault}
use Rattle.byzantine_world.specs.declared.world_fault.WorldFault.TheVariants.{BadSchema, NotConfluent, Limit, Memory}
use Rattle.world_rules.specs.declared.fault.SiteFault.{SiteFault}
use Rattle.world_rules.specs.declared.fault.SiteFault.TheVariants as sites
use Rattle.world_rules.specs.Drawn.{HaveDrawnKeys}
use Rattle.world_rules.specs.Happens.{IsNew, IsNewSite}
use Rattle.world_rules.specs.Worlds.{SiteData, WorldData}

-- A replica that is new, of this text, in a world of so many.
pub record IsNewOf (text : List ℕ) (count : ℕ) (site : SiteData) : Type 0 where
  pub new : IsNewSite is_luhn site.store.history.schema site
  pub text_is : site.store.history.schema.text ≡ text
  pub many : length site.remembered ≡ count

-- No session was started.
abbrev pub AreNone : List (Option Talk) → Type 0
AreNone talks = All (λ (talk : Option Talk). talk ≡ None) talks

-- The code is that of a new world of so many replicas, of the schema that the text declares, each with the key of these types that the number draws for its place.
pub record IsBegun (ask : Meaning) (text : List ℕ) (count : ℕ) (types : KeyTypes) (number : ℕ) (code : WorldCode) : Type 0 where
  pub schema : SchemaData
  pub world : WorldData
  pub new : IsNew ask schema world
  pub shows : ShowsWorld code world
  pub text_is : schema.text ≡ text
  pub count_is : length world.sites ≡ count
  pub keys : HaveDrawnKeys types number world.sites
  pub runs : code.is_over ≡ false

-- The text declares no schema; or an invariant of it does not survive merging; or it is taken, and there are to be no replicas or more than 16. Want of memory
-- has its cause in nothing.
abbrev pub IsWorldCause : Meaning → List ℕ → ℕ → WorldFault → Type 0
IsWorldCause ask text count BadSchema = (fault : SchemaFault) × RefusesSchema ask text (refusals.Schema fault)
IsWorldCause ask text count NotConfluent =
    (declared : SchemaData) × (which : Invariant) × (example : Counterexample) × RefusesSchema ask text (refusals.NotConfluent declared which example)
IsWorldCause ask text count Limit = (schema : SchemaData) × TakesSchema ask text schema × ((count ≡ 0) ⊎ (16 < count))
IsWorldCause ask text count Memory = Unit {0}

-- what a fault of a replica is of its world
abbrev pub world_fault_of : SiteFault → WorldFault
world_fault_of sites.BadSchema = BadSchema
world_fault_of sites.NotConfluent = NotConfluent
world_fault_of sites.Memory = Memory

-- what a refusal of a text is of its world
abbrev pub refusal_fault : SchemaRefusal → WorldFault
refusal_fault (refusals.Schema fault) = BadSchema
refusal_fault (refusals.NotConfluent declared which example) = NotConfluent
refusal_fault refusals.Memory = Memory
