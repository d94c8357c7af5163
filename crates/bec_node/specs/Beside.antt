-- What a run of the program does without a net.
use Rattle.std.specs.Prelude.{◌≡◌, ◌⊎◌, ℕ, List, [], IsTrue, String}
use Rattle.std.specs.declared.alloc.Global.{Global}
use Rattle.std.specs.Io.KnownBytes.{Appends}
use Rattle.bec_bytes.specs.Causes.{Rose}
use Rattle.command_words.specs.AuditRequests.{AuditText}
use Rattle.command_words.specs.SealRequests.{SealText}
use Rattle.command_words.specs.WatchRequests.{WatchText}
use Rattle.command_words.specs.WorldRequests.{WorldText}
use Rattle.key_directory.specs.Parts.{IsHome}
use Rattle.schema_verdict.specs.declared.status.TheConstants.{OUT_OF_MEMORY, STORE_FAULT, STREAM_FAULT}
use Rattle.schema_verdict.specs.Written.{SinkState}
use Rattle.outcomes.specs.Outside.{IsUntouched, Outside}
use Rattle.bec_node.specs.Families.{AuditAnswersOnly, AuditComes, BesideText, IsAnswered, IsBesideCommand, SealAnswersOnly, SealComes, ViewComes, WorldComes, of_audits, of_seals, of_views, of_worlds}
use Rattle.bec_node.specs.RunAlone.{Runs}

-- A request of a family without a net comes to what that comes to.
pub data DoesBeside {S H R : Type 0} (before after : Outside S H R) (sink sink_new : SinkState) (status : ℕ) : BesideText → Type 0 where
  over_seals : (request : SealText) → IsAnswered (SealComes request) (SealAnswersOnly request before) before after sink sink_new status
      → DoesBeside before after sink sink_new status (of_seals request)
  of_keys : (request : AuditText) → IsAnswered (AuditComes request) (AuditAnswersOnly request before) before after sink sink_new status
      → DoesBeside before after sink sink_new status (of_audits request)
  over_views : (request : WatchText) → ViewComes request before after sink sink_new status → DoesBeside before after sink sink_new status (of_views request)
  over_worlds : (request : WorldText) → WorldComes request before after sink sink_new status → DoesBeside before after sink sink_new status (of_worlds request)

-- Words that ask for something of these families come to that; other words do what they do alone; and without memory for reading the words nothing is done.
pub data DoesByWords {S H R : Type 0} (words : List (String Global)) (before after : Outside S H R) (sink sink_new : SinkState) (status : ℕ) : Type 0 where
  alone : ((request : BesideText) → IsBesideCommand request words → ⊥) → Runs words before after sink sink_new status → DoesByWords words before after sink sink_new status
  asked : (request : BesideText) → IsBesideCommand request words → DoesBeside before after sink sink_new status request → DoesByWords words before after sink sink_new status
  unread : IsUntouched before after → status ≡ OUT_OF_MEMORY → Appends sink.held sink_new.held [] → DoesByWords words before after sink sink_new status

-- A run without a net. Whatever it comes to, and whether the shelf tells what it has or not, a store fault is told only where the shelf counted one, and a stream fault only where the
-- source or the sink did. No part of the shelf is handed out afterwards.
pub record RunsBeside {S H R : Type 0} (words : List (String Global)) (before after : Outside S H R) (sink sink_new : SinkState) (status : ℕ) : Type 0 where
  pub does : DoesByWords words before after sink sink_new status
  pub store_fault : status ≡ STORE_FAULT → Rose before.shelf_faults after.shelf_faults
  pub stream_fault : status ≡ STREAM_FAULT → Rose before.source_faults after.source_faults ⊎ Rose sink.faults sink_new.faults
  pub home : IsTrue before.store.tells → IsHome after.store
