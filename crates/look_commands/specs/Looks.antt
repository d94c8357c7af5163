-- What a request that looks at a store comes to.
use Rattle.std.specs.Prelude.{◌≡◌, ℕ, List, Option, None, Some}
use Rattle.command_words.specs.LookRequests.{LookText, QuestionText, Both, Csv, KeyOf, One, Page, Records, Schema, Status, Updates}
use Rattle.bec_bytes.specs.Framed.{stream_of}
use Rattle.outcomes.specs.Comes.{ReadsSource, ReadsStoreOnly}
use Rattle.outcomes.specs.Outcome.{Outcome}
use Rattle.outcomes.specs.Outside.{Outside}
use Rattle.outcomes.specs.StoreAnswers.{ReadsStore}
use Rattle.schema.specs.Data.{SchemaData}
use Rattle.schema_verdict.specs.Verdict.{Prints}
use Rattle.store_directory.specs.Stores.{StoreData}
use Rattle.look_commands.specs.Bundles.{BundleShown}
use Rattle.look_commands.specs.Differences.{ShowsDifference}
use Rattle.look_commands.specs.Keys.{ShowsKey}
use Rattle.look_commands.specs.Queries.{AnswersQuery, query_for}
use Rattle.look_commands.specs.Texts.{IsListing, IsPage, IsStatus, style_of}

-- What is asked of a schema and of members is shown.
abbrev pub ShowsMembers : QuestionText → SchemaData → List (List ℕ) → Outcome → Type 0
ShowsMembers (Updates asked) schema members outcome = (text : List ℕ) × IsListing asked schema members text × Prints outcome text
ShowsMembers Page schema members outcome = (text : List ℕ) × IsPage schema members text × Prints outcome text
ShowsMembers Status schema members outcome = (text : List ℕ) × IsStatus schema members text × Prints outcome text
ShowsMembers Schema schema members outcome = Prints outcome schema.text
ShowsMembers Records schema members outcome = Prints outcome (stream_of members)
ShowsMembers (Csv text) schema members outcome = AnswersQuery (query_for text) schema members outcome

-- The same of a store.
abbrev pub ShowsStore : QuestionText → StoreData → Outcome → Type 0
ShowsStore asked store outcome = ShowsMembers asked store.schema store.members outcome

-- What is asked of the store of a directory is shown, or where there is none of the bundle that is read; or that is refused, or a fault came.
abbrev pub LooksAt : {S H R : Type 0} → QuestionText → Option (List ℕ) → Outside S H R → Outside S H R → Outcome → Type 0
LooksAt asked None before after outcome = ReadsSource (BundleShown (ShowsMembers asked)) before after outcome
LooksAt asked (Some dir) before after outcome = ReadsStoreOnly (ReadsStore (ShowsStore asked)) dir before after outcome

-- The public key of a directory is shown. Neither the source nor the generator is used.
pub record ShowsKeyOnly {S H R : Type 0} (dir : List ℕ) (before after : Outside S H R) (outcome : Outcome) : Type 0 where
  pub shows : ShowsKey dir before.store after.store before.shelf_faults after.shelf_faults outcome
  pub source : after.source ≡ before.source
  pub random : after.random ≡ before.random

-- What a request comes to.
abbrev pub LookComes : {S H R : Type 0} → LookText → Outside S H R → Outside S H R → Outcome → Type 0
LookComes (One directory asked) before after outcome = LooksAt asked directory before after outcome
LookComes (Both first second full json) before after outcome = ShowsDifference (style_of full json) first second before after outcome
LookComes (KeyOf dir) before after outcome = ShowsKeyOnly dir before after outcome
