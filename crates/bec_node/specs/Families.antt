-- The families of commands without a net beside those of a run alone: over seals, audits of keys, views of queries, and worlds.
use Rattle.std.specs.Prelude.{◌≡◌, ℕ, List, map, IsErrOf, IsTrue, String, Ok, Err}
use Rattle.std.specs.declared.alloc.Global.{Global}
use Rattle.std.specs.String.{string_bytes}
use Rattle.bec_bytes.specs.Causes.{Rose}
use Rattle.bec_disk.specs.Shelf.{ShelfState}
use Rattle.bec_disk.specs.declared.part.Part.TheVariants.{Key}
use Rattle.command_words.specs.AuditRequests.{AsksAudit, AuditText, audit, confirm}
use Rattle.command_words.specs.SealRequests.{AsksSeal, SealText, hsskey, seal, unseal}
use Rattle.command_words.specs.Seen.{audit_seen, seal_seen, watch_seen, world_seen}
use Rattle.command_words.specs.WatchRequests.{AsksWatch, WatchText, watch}
use Rattle.command_words.specs.WorldRequests.{AsksWorld, WorldText, demo, world}
use Rattle.key_directory.specs.Parts.{IsHome, part_in, reading}
use Rattle.lm_ots.specs.declared.ots_type.OtsType.{OtsType}
use Rattle.lms_tree.specs.declared.lms_type.LmsType.{LmsType}
use Rattle.seal_commands.specs.Sealing.{HsskeyAnswer, HsskeyRun, SealRun}
use Rattle.seal_commands.specs.declared.refusal.SealRefusal.{SealRefusal}
use Rattle.seal_commands.specs.declared.refusal.SealRefusal.TheVariants as seals
use Rattle.seal_commands.specs.Unsealing.{UnsealAnswer}
use Rattle.audit_commands.specs.Audits.{ShowsDoubled}
use Rattle.audit_commands.specs.Confirming.{ConfirmAnswer}
use Rattle.outcomes.specs.Comes.{ReadsSource, ReadsStoreOnly}
use Rattle.outcomes.specs.Only.{EachAs, ShelfOnly, SourceOnly}
use Rattle.outcomes.specs.Outcome.{Ends, Outcome}
use Rattle.outcomes.specs.Outside.{Outside}
use Rattle.outcomes.specs.StoreAnswers.{Printing, ReadsStore}
use Rattle.outcomes.specs.declared.refusal.Refusal.{Refusal}
use Rattle.outcomes.specs.declared.refusal.Refusal.TheVariants as refusals
use Rattle.schema_verdict.specs.Verdict.{OutcomeOf}
use Rattle.schema_verdict.specs.Written.{SinkState}
use Rattle.watch_command.specs.Runs.{WatchesIn}
use Rattle.world_commands.specs.Answers.{TellsWorld}
use Rattle.world_commands.specs.Demos.{TellsDemo}
use Rattle.bec_node.specs.declared.families.BesideRequest.{BesideRequest}
use Rattle.bec_node.specs.declared.families.BesideRequest.TheVariants.{Seals, Audits, Views, Worlds}

-- a request of one of these families
pub data BesideText : Type 0 where
  of_seals : SealText → BesideText
  of_audits : AuditText → BesideText
  of_views : WatchText → BesideText
  of_worlds : WorldText → BesideText

-- what a contract sees of one
abbrev pub beside_seen : BesideRequest → BesideText
beside_seen (Seals request) = of_seals (seal_seen request)
beside_seen (Audits request) = of_audits (audit_seen request)
beside_seen (Views request) = of_views (watch_seen request)
beside_seen (Worlds request) = of_worlds (world_seen request)

-- the words ask for this
abbrev pub IsBesideCommand : BesideText → List (String Global) → Type 0
IsBesideCommand (of_seals request) words = AsksSeal (map string_bytes words) request
IsBesideCommand (of_audits request) words = AsksAudit (map string_bytes words) request
IsBesideCommand (of_views request) words = AsksWatch (map string_bytes words) request
IsBesideCommand (of_worlds request) words = AsksWorld (map string_bytes words) request

-- A command is done, or refused: what it comes to is said, and each answer that it has to what stands outside comes with its status.
pub record IsAnswered {S H R : Type 0} (Comes : Outside S H R → Outside S H R → Outcome → Type 0) (Only : ℕ → Type 0) (before after : Outside S H R) (sink sink_new : SinkState) (status : ℕ) : Type 0 where
  pub outcome : Outcome
  pub comes : Comes before after outcome
  pub said : Ends sink.faults sink_new.faults sink.held sink_new.held outcome status
  pub only : Only status

-- ---- seals

-- the refusal that one of a command over seals becomes
abbrev pub from_seal : SealRefusal → Refusal
from_seal seals.BadSeal = refusals.BadSeal
from_seal seals.InputTooLong = refusals.InputTooLong
from_seal seals.KeyThere = refusals.KeyThere
from_seal seals.NoKey = refusals.NoKey
from_seal seals.BadKey = refusals.BadKey
from_seal (seals.KeySpent count) = refusals.KeySpent count
from_seal seals.Store = refusals.StoreFault
from_seal seals.Stream = refusals.Stream
from_seal seals.Memory = refusals.Memory

-- an outcome over seals, as the program tells it
abbrev pub told_as : OutcomeOf SealRefusal → Outcome
told_as (Ok text) = Ok text
told_as (Err why) = Err (from_seal why)

-- A command over a shelf came to this and is told so. No part of the shelf is handed out afterwards, and a store fault comes only where its count rose.
pub record TellsSeals (Comes : OutcomeOf SealRefusal → Type 0) (before after : ShelfState) (old new : ℕ) (outcome : Outcome) : Type 0 where
  pub own : OutcomeOf SealRefusal
  pub told : outcome ≡ told_as own
  pub comes : Comes own
  pub home : IsTrue before.tells → IsHome after
  pub failed : IsErrOf own seals.Store → Rose old new

-- A two-level key is drawn for a directory, or not. The source is not used.
pub record DrawsHss {S H R : Type 0} (height : LmsType) (width : OtsType) (dir : List ℕ) (before after : Outside S H R) (outcome : Outcome) : Type 0 where
  pub draws : TellsSeals (HsskeyRun height width before.stream after.stream dir before.store after.store) before.store after.store before.shelf_faults after.shelf_faults outcome
  pub source : after.source ≡ before.source

-- The input is sealed by the two-level key of a directory, or not.
abbrev pub SealsSource : {S H R : Type 0} → List ℕ → Outside S H R → Outside S H R → Outcome → Type 0
SealsSource dir before after = TellsSeals (SealRun dir before.store after.store before.stream after.stream before.left after.left before.source_faults after.source_faults) before.store after.store before.shelf_faults after.shelf_faults

-- What a request about seals comes to.
abbrev pub SealComes : {S H R : Type 0} → SealText → Outside S H R → Outside S H R → Outcome → Type 0
SealComes (hsskey dir height width) = DrawsHss height width dir
SealComes (seal dir) = SealsSource dir
SealComes (unseal key signature) = ReadsSource (UnsealAnswer from_seal key signature)

-- Each answer of `hsskey` to what the part Key reads as, and of `unseal` to what the source has, comes with its status, unless a disk, the source or the sink
-- failed or memory ran out.
abbrev pub SealAnswersOnly : {S H R : Type 0} → SealText → Outside S H R → ℕ → Type 0
SealAnswersOnly (hsskey dir height width) before = λ status. IsTrue before.store.tells → EachAs (HsskeyAnswer from_seal height width before.stream (reading (part_in before.store dir Key))) status
SealAnswersOnly (seal dir) before = λ status. Unit {0}
SealAnswersOnly (unseal key signature) before = SourceOnly (UnsealAnswer from_seal key signature) before.left

-- ---- audits

-- What a request about keys that signed twice comes to.
abbrev pub AuditComes : {S H R : Type 0} → AuditText → Outside S H R → Outside S H R → Outcome → Type 0
AuditComes (audit dir) = ReadsStoreOnly (ReadsStore (Printing ShowsDoubled)) dir
AuditComes confirm = ReadsSource ConfirmAnswer

-- Each answer that it has to what stands outside comes with its status, unless a disk or a stream failed or memory ran out.
abbrev pub AuditAnswersOnly : {S H R : Type 0} → AuditText → Outside S H R → ℕ → Type 0
AuditAnswersOnly (audit dir) before = ShelfOnly (ReadsStore (Printing ShowsDoubled)) dir before.store
AuditAnswersOnly confirm before = SourceOnly ConfirmAnswer before.left

-- ---- views of queries

-- A query is watched over the store of a directory. The generator is not used.
pub record WatchesQuery {S H R : Type 0} (dir text : List ℕ) (every : ℕ) (before after : Outside S H R) (sink sink_new : SinkState) (status : ℕ) : Type 0 where
  pub watches : WatchesIn (after.source ≡ before.source) (record { text = text; every = every }) dir before.store after.store before.shelf_faults after.shelf_faults
      (record { left = before.left; faults = before.source_faults; sink = sink }) (record { left = after.left; faults = after.source_faults; sink = sink_new }) status
  pub random : after.random ≡ before.random

-- What a request about views comes to, and what it writes.
abbrev pub ViewComes : {S H R : Type 0} → WatchText → Outside S H R → Outside S H R → SinkState → SinkState → ℕ → Type 0
ViewComes (watch dir text every) = WatchesQuery dir text every

-- ---- worlds

-- What a request about worlds comes to, and what it writes. A script is read from the source; a demonstration leaves it as it was.
abbrev pub WorldTells : {S H R : Type 0} → WorldText → Outside S H R → Outside S H R → SinkState → SinkState → ℕ → Type 0
WorldTells (world audited) before after =
    TellsWorld audited (record { left = before.left; faults = before.source_faults }) (record { left = after.left; faults = after.source_faults })
WorldTells (demo number count) before after = λ sink sink_new status. TellsDemo number count sink sink_new status × (after.source ≡ before.source)

-- A request about worlds uses neither the shelf nor the generator.
pub record WorldComes {S H R : Type 0} (request : WorldText) (before after : Outside S H R) (sink sink_new : SinkState) (status : ℕ) : Type 0 where
  pub tells : WorldTells request before after sink sink_new status
  pub shelf : after.shelf ≡ before.shelf
  pub random : after.random ≡ before.random
