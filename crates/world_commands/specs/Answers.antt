-- What the commands over worlds answer.
use Rattle.std.specs.Prelude.{◌≡◌, ◌≢◌, ◌⊎◌, ℕ, Bool, List, [], ◌∷◌, ◌++◌, length, codes, decimal, Err}
use Rattle.std.specs.Io.KnownBytes.{Appends}
use Rattle.std.specs.List.{flat_map}
use Rattle.std.specs.declared.option.Option.{Option}
use Rattle.bec_bytes.specs.Causes.{Rose}
use Rattle.bec_bytes.specs.declared.read_error.ReadError.{ReadError}
use Rattle.bec_bytes.specs.declared.read_error.ReadError.TheVariants as read_errors
use Rattle.confluence_test.specs.Taking.{IsRefuted, TakesSchema}
use Rattle.confluence_test.specs.declared.refusal.SchemaRefusal.TheVariants as taking
use Rattle.confluence_test.specs.declared.refusal.SchemaRefusal.TheVariants.{Memory}
use Rattle.row_check.specs.Checksum.{is_luhn}
use Rattle.schema.specs.Data.{Meaning, SchemaData}
use Rattle.schema_text.specs.Schemas.{Declares}
use Rattle.schema_verdict.specs.Checks.{SourceState}
use Rattle.schema_verdict.specs.Inputs.{IsWholeText}
use Rattle.schema_verdict.specs.Verdict.{OutcomeOf, Prints}
use Rattle.schema_verdict.specs.Verdict as verdicts
use Rattle.schema_verdict.specs.Written.{Puts, SinkState}
use Rattle.lms_tree.specs.declared.seed.KeyTypes.{KeyTypes}
use Rattle.schema_verdict.specs.declared.status.TheConstants.{DONE, OUT_OF_MEMORY, REFUSED, STREAM_FAULT}
use Rattle.table_model.specs.Visible.{rules_with}
use Rattle.table_model.specs.declared.counterexample.Counterexample.{Counterexample}
use Rattle.table_model.specs.declared.invariant.Invariant.{Invariant}
use Rattle.world_commands.specs.Lines.{LinesHappen}
use Rattle.world_commands.specs.Shown.{IsShown}
use Rattle.world_commands.specs.declared.refusal.WorldRefusal.{WorldRefusal}
use Rattle.world_commands.specs.declared.refusal.WorldRefusal.TheVariants.{NotTaken, AtLine, Stream}
use Rattle.world_report.specs.Reports.{missed_text}
use Rattle.world_report.specs.declared.shown.Missed.{Missed}
use Rattle.world_rules.specs.Drawn.{HaveDrawnKeys}
use Rattle.world_rules.specs.Happens.{IsNew}
use Rattle.world_rules.specs.Worlds.{WorldData}
use Rattle.world_script.specs.Scripts.{FirstFault, IsScript}
use Rattle.world_script.specs.declared.fault.ScriptError.{ScriptError}
use Rattle.world_script.specs.declared.fault.ScriptError.TheVariants as errors
use Rattle.world_script.specs.declared.fault.ScriptFault.{ScriptFault}
use Rattle.world_script.specs.declared.fault.ScriptFault.TheVariants as faults
use Rattle.world_script.specs.declared.limits.TheConstants.{MAX_SCRIPT_BYTES}
use Rattle.world_script.specs.declared.script.Script.{Script}

-- the refusal that an error of reading becomes
abbrev pub from_reading : ReadError → WorldRefusal
from_reading read_errors.Failed = Stream
from_reading read_errors.Memory = NotTaken Memory

-- the refusal that a fault of a text that is no script becomes
abbrev pub from_fault : ScriptFault → WorldRefusal
from_fault (faults.AtLine number) = AtLine number
from_fault (faults.Schema fault) = NotTaken (taking.Schema fault)

-- the refusal that an error of reading a script becomes
abbrev pub from_script : ScriptError → WorldRefusal
from_script (errors.Fault fault) = from_fault fault
from_script errors.Memory = NotTaken Memory

-- ---- world

-- the types of the keys of a script's replicas
abbrev pub types_of : Script → KeyTypes
types_of script = record { lms = script.lms; ots = script.ots }

-- The text is the report of a script: from a new world of its schema, with its replicas, each with the key that the script's number draws for its place, what its lines say happens, one after another. First stands what is
-- reported of lines, and then what is shown of the last world.
pub record Reports (ask : Meaning) (audit : Bool) (script : Script) (text : List ℕ) : Type 0 where
  pub schema : SchemaData
  pub first : WorldData
  pub last : WorldData
  pub missed : List Missed
  pub shown : List ℕ
  pub new : IsNew ask schema first
  pub of_script : schema.text ≡ script.schema
  pub count : length first.sites ≡ script.replicas
  pub keys : HaveDrawnKeys (types_of script) script.number first.sites
  pub happen : LinesHappen ask first script.lines missed last
  pub shows : IsShown ask audit last shown
  pub is : text ≡ flat_map missed_text missed ++ shown

-- Each invariant of the schema of a script survives merging.
abbrev pub IsTaken : Meaning → Script → Type 0
IsTaken ask script = (schema : SchemaData) × TakesSchema ask script.schema schema

-- Why a text has no report: its first fault; or it is a script, and this is the first invariant of its schema that does not survive merging.
pub data RefusesScript (ask : Meaning) (text : List ℕ) (why : WorldRefusal) : Type 0 where
  at_fault : (first : ScriptFault) → FirstFault ask text first → why ≡ from_fault first → RefusesScript ask text why
  not_confluent : (script : Script) (schema : SchemaData) (which : Invariant) (example : Counterexample) → IsScript ask text script → Declares ask script.schema schema
      → IsRefuted (rules_with ask schema.tables) which example → why ≡ NotTaken (taking.NotConfluent schema which example) → RefusesScript ask text why

-- A refusal of which this holds, or want of memory.
abbrev pub IsRefusal : (WorldRefusal → Type 0) → WorldRefusal → Type 0
IsRefusal P why = P why ⊎ (why ≡ NotTaken Memory)

-- The source has the text of a script, of which the report is printed; or a text that is refused.
pub data WorldAnswer (audit : Bool) (before after : Option (List ℕ)) (outcome : OutcomeOf WorldRefusal) : Type 0 where
  reported : (text report : List ℕ) (script : Script) → IsWholeText MAX_SCRIPT_BYTES before after text → IsScript is_luhn text script → IsTaken is_luhn script
      → Reports is_luhn audit script report → Prints outcome report → WorldAnswer audit before after outcome
  refused : (text : List ℕ) (why : WorldRefusal) → IsWholeText MAX_SCRIPT_BYTES before after text → RefusesScript is_luhn text why → outcome ≡ Err why
      → WorldAnswer audit before after outcome

-- What may come in place of an answer: memory ran out, or the source failed, whose count of faults rose.
abbrev pub IsFault : ℕ → ℕ → WorldRefusal → Type 0
IsFault old new why = (why ≡ NotTaken Memory) ⊎ ((why ≡ Stream) × Rose old new)

-- the lines for why there is no report
abbrev pub text_for : WorldRefusal → List ℕ
text_for (NotTaken refusal) = verdicts.text_for refusal
text_for (AtLine number) = codes "! script line " ++ (decimal number ++ 10 ∷ [])
text_for Stream = codes "! stream fault\n"

-- Why there is no report is written; or the source failed, which is said; or memory ran out, and nothing is written.
pub data TellsRefusal (why : WorldRefusal) (sink sink_new : SinkState) (status : ℕ) : Type 0 where
  told : why ≢ NotTaken Memory → why ≢ Stream → Puts sink.faults sink_new.faults sink.held sink_new.held REFUSED (text_for why) status → TellsRefusal why sink sink_new status
  failed : why ≡ Stream → Puts sink.faults sink_new.faults sink.held sink_new.held STREAM_FAULT (text_for Stream) status → TellsRefusal why sink sink_new status
  unmade : status ≡ OUT_OF_MEMORY → Appends sink.held sink_new.held [] → TellsRefusal why sink sink_new status

-- The report of what the source has is written; or why there is none; or the source failed, which is said; or memory ran out, and nothing is written.
pub data TellsWorld (audit : Bool) (source source_new : SourceState) (sink sink_new : SinkState) (status : ℕ) : Type 0 where
  reported_so : (report : List ℕ) (outcome : OutcomeOf WorldRefusal) → Prints outcome report → WorldAnswer audit source.left source_new.left outcome
      → Puts sink.faults sink_new.faults sink.held sink_new.held DONE report status → TellsWorld audit source source_new sink sink_new status
  refused_so : (why : WorldRefusal) → WorldAnswer audit source.left source_new.left (Err why)
      → Puts sink.faults sink_new.faults sink.held sink_new.held REFUSED (text_for why) status → TellsWorld audit source source_new sink sink_new status
  source_failed : Rose source.faults source_new.faults → Puts sink.faults sink_new.faults sink.held sink_new.held STREAM_FAULT (text_for Stream) status
      → TellsWorld audit source source_new sink sink_new status
  nothing_said : status ≡ OUT_OF_MEMORY → Appends sink.held sink_new.held [] → TellsWorld audit source source_new sink sink_new status
