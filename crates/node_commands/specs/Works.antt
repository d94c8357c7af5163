-- What is done over one directory.
use Rattle.std.specs.Prelude.{◌≡◌, ◌⊎◌, ℕ, ◌≤◌, List, IfSome, Option, Some, None, Err, length, option_map}
use Rattle.rand_core.specs.Stream.{Stream}
use Rattle.update_model.specs.declared.limits.TheConstants.{MAX_NOTE}
use Rattle.key_index.specs.KeyState.{KeyState}
use Rattle.store_directory.specs.declared.opening.Needs.{Needs}
use Rattle.store_directory.specs.declared.opening.Needs.TheVariants as needed
use Rattle.store_directory.specs.Holding.{OpenData}
use Rattle.store_directory.specs.Standing.{Stands}
use Rattle.store_directory.specs.Stores.{StoreData}
use Rattle.outcomes.specs.declared.refusal.Refusal.TheVariants.{Memory}
use Rattle.outcomes.specs.Comes.{IsSourceFault, ReadsStoreOnly}
use Rattle.outcomes.specs.OpenStores.{opened_store}
use Rattle.outcomes.specs.Outcome.{Outcome}
use Rattle.outcomes.specs.Outside.{Outside}
use Rattle.outcomes.specs.StoreAnswers.{Printing, ReadsStore}
use Rattle.node_commands.specs.declared.working.Work.{Work}
use Rattle.node_commands.specs.declared.working.Work.TheVariants.{Heads, Dump, Export, Query, Notes, Apply, Join}
use Rattle.node_commands.specs.Asking.{QueryAnswer}
use Rattle.node_commands.specs.Shows.{ShowsHeads, ShowsNotes, ShowsRecords, ShowsTables}
use Rattle.node_commands.specs.Signing.{Applies, ApplyAnswer, IsNoStop, JoinAnswer, JoinsHeads, SignAnswer, SignsOpen}

-- what it needs of the directory
abbrev pub needs_of : Work → Needs
needs_of (Apply _) = needed.StoreAndKey
needs_of Join = needed.StoreAndKey
needs_of work = needed.Store

-- A note that it gives is a short one.
abbrev pub HasShortNote : Work → Type 0
HasShortNote (Apply note) = IfSome note (λ text. length text.now ≤ MAX_NOTE)
HasShortNote work = Unit {0}

-- What it comes to, and what it leaves.
abbrev pub Does : {S H R : Type 0} → Work → List ℕ → Outside S H R → Outside S H R → Outcome → Type 0
Does Heads dir before after outcome = ReadsStoreOnly (ReadsStore (Printing ShowsHeads)) dir before after outcome
Does (Dump json) dir before after outcome = ReadsStoreOnly (ReadsStore (Printing (ShowsTables json))) dir before after outcome
Does (Export updates_only) dir before after outcome = ReadsStoreOnly (ReadsStore (Printing (ShowsRecords updates_only))) dir before after outcome
Does (Query text json) dir before after outcome = ReadsStoreOnly (ReadsStore (QueryAnswer text.now json)) dir before after outcome
Does Notes dir before after outcome = ReadsStoreOnly (ReadsStore (Printing ShowsNotes)) dir before after outcome
Does (Apply note) dir before after outcome = Applies dir (option_map (λ text. text.now) note) before after outcome
Does Join dir before after outcome = JoinsHeads dir before after outcome

-- ---- the same of what is open

-- A source and a generator of random words, while no shelf is used.
pub record Beside (S R : Type 0) : Type 0 where
  pub source : S
  pub left : Option (List ℕ)
  pub source_faults : ℕ
  pub random : R
  pub stream : Stream

-- these two, seen so
abbrev pub beside : {S R : Type 0} → (S → Option (List ℕ)) → (S → ℕ) → (R → Stream) → S → R → Beside S R
beside left source_faults stream source random = record { source = source; left = left source; source_faults = source_faults source; random = random; stream = stream random }

-- those that stand outside of a run
abbrev pub beside_of : {S H R : Type 0} → Outside S H R → Beside S R
beside_of outside = record { source = outside.source; left = outside.left; source_faults = outside.source_faults; random = outside.random; stream = outside.stream }

-- The key is open where it is needed.
abbrev pub HasKeyFor : Needs → Option KeyState → Type 0
HasKeyFor needed.Store key = Unit {0}
HasKeyFor needed.StoreAndKey None = ⊥
HasKeyFor needed.StoreAndKey (Some key) = Unit {0}

-- A store that is open is answered to, or memory ran out. Nothing else is used, and all is as it was.
pub record ReadsOpen {S R : Type 0} (Answers : StoreData → Outcome → Type 0) (before after : Beside S R) (store : OpenData) (key : Option KeyState) (store_new : OpenData) (key_new : Option KeyState) (outcome : Outcome) : Type 0 where
  pub stands : Stands store.replica
  pub answers : Answers (opened_store store.replica) outcome ⊎ (outcome ≡ Err Memory)
  pub same_store : store_new ≡ store
  pub same_key : key_new ≡ key
  pub same_source : after.source ≡ before.source
  pub same_random : after.random ≡ before.random

-- An update is made by a key that is open.
abbrev pub SignsWith : SignAnswer → (Outcome → Type 0) → Stream → Stream → OpenData → Option KeyState → OpenData → Option KeyState → Outcome → Type 0
SignsWith Answer Stops stream stream_new store (Some key) store_new (Some key_new) outcome =
    (store_new.schema ≡ store.schema) × SignsOpen Answer Stops stream stream_new store.replica key store_new.replica key_new outcome
SignsWith Answer Stops stream stream_new store key store_new key_new outcome = ⊥

abbrev pub DoesOpen : {S R : Type 0} → Work → Beside S R → Beside S R → OpenData → Option KeyState → OpenData → Option KeyState → Outcome → Type 0
DoesOpen Heads before after store key store_new key_new outcome = ReadsOpen (Printing ShowsHeads) before after store key store_new key_new outcome
DoesOpen (Dump json) before after store key store_new key_new outcome = ReadsOpen (Printing (ShowsTables json)) before after store key store_new key_new outcome
DoesOpen (Export updates_only) before after store key store_new key_new outcome = ReadsOpen (Printing (ShowsRecords updates_only)) before after store key store_new key_new outcome
DoesOpen (Query text json) before after store key store_new key_new outcome = ReadsOpen (QueryAnswer text.now json) before after store key store_new key_new outcome
DoesOpen Notes before after store key store_new key_new outcome = ReadsOpen (Printing ShowsNotes) before after store key store_new key_new outcome
DoesOpen (Apply note) before after store key store_new key_new outcome =
    SignsWith (ApplyAnswer (option_map (λ text. text.now) note) before.left after.left before.stream) (IsSourceFault before.source_faults after.source_faults)
    before.stream after.stream store key store_new key_new outcome
DoesOpen Join before after store key store_new key_new outcome =
    SignsWith (JoinAnswer before.stream) IsNoStop before.stream after.stream store key store_new key_new outcome × (after.source ≡ before.source)
