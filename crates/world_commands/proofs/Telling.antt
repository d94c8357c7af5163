-- What is told of a script, and how it is refused.
use Rattle.std.proofs.Common.{◌≡◌, ◌⊎◌, inl, inr, ℕ, Bool, List, refl, sym, ap, subst, Err}
use Rattle.schema_verdict.specs.Checks.{SourceState}
use Rattle.schema_verdict.specs.Written.{SinkState}
use Rattle.confluence_test.specs.Taking.{RefusesSchema}
use Rattle.confluence_test.specs.Taking as taking
use Rattle.confluence_test.specs.declared.refusal.SchemaRefusal.{SchemaRefusal}
use Rattle.confluence_test.specs.declared.refusal.SchemaRefusal.TheVariants.{Memory}
use Rattle.schema.specs.Data.{Meaning, SchemaData}
use Rattle.schema_text.specs.Schemas.{Declares, FirstFault}
use Rattle.schema_text.specs.declared.fault.SchemaKind.{SchemaKind}
use Rattle.world_commands.specs.Answers.{IsFault, IsRefusal, RefusesScript, TellsRefusal, TellsWorld, WorldAnswer, at_fault, failed, from_script, not_confluent, nothing_said, refused, refused_so, reported, source_failed, told, unmade}
use Rattle.world_commands.specs.declared.refusal.WorldRefusal.{WorldRefusal}
use Rattle.world_commands.specs.declared.refusal.WorldRefusal.TheVariants.{NotTaken, Stream}
use Rattle.world_script.specs.Outcome.{HasCause}
use Rattle.world_script.specs.Scripts.{IsScript}
use Rattle.world_script.specs.declared.fault.ScriptError.{ScriptError}
use Rattle.world_script.specs.declared.fault.ScriptError.TheVariants as errors
use Rattle.world_script.specs.declared.fault.ScriptFault.TheVariants as faults
use Rattle.world_script.specs.declared.script.Script.{Script}

-- a text that is no script
pub script_refused : (ask : Meaning) (text : List ℕ) (error : ScriptError) → HasCause ask text error → IsRefusal (RefusesScript ask text) (from_script error)
script_refused ask text (errors.Fault first) cause = inl (at_fault first cause refl)
script_refused ask text errors.Memory cause = inr refl

-- a script whose schema is not taken: that has no fault, so an invariant does not survive merging
pub schema_refused : (ask : Meaning) (text : List ℕ) (script : Script) (why : SchemaRefusal) → IsScript ask text script
    → ((schema : SchemaData) (kind : SchemaKind) (line : ℕ) → Declares ask script.schema schema → FirstFault ask script.schema kind line → ⊥)
    → RefusesSchema ask script.schema why ⊎ (why ≡ Memory) → IsRefusal (RefusesScript ask text) (NotTaken why)
schema_refused ask text script why is sound (inl (taking.fault first at e)) =
    absurd (sound is.schema first.kind first.line (subst (λ (part : List ℕ). Declares ask part is.schema) (sym is.part) is.declares) at)
schema_refused ask text script why is sound (inl (taking.not_confluent schema which example declares refuted e)) = inl (not_confluent script schema which example is declares refuted (ap NotTaken e))
schema_refused ask text script why is sound (inr memory) = inr (ap NotTaken memory)

-- what is said where there is no report
pub not_reported : (audit : Bool) (source source_new : SourceState) (sink sink_new : SinkState) (status : ℕ) (why : WorldRefusal)
    → WorldAnswer audit source.left source_new.left (Err why) ⊎ IsFault source.faults source_new.faults why → TellsRefusal why sink sink_new status
    → TellsWorld audit source source_new sink sink_new status
not_reported audit source source_new sink sink_new status why came (unmade is none) = nothing_said is none
not_reported audit source source_new sink sink_new status why (inl answer) (told memory stream puts) = refused_so why answer puts
not_reported audit source source_new sink sink_new status why (inr (inl lacks)) (told memory stream puts) = absurd (memory lacks)
not_reported audit source source_new sink sink_new status why (inr (inr fails)) (told memory stream puts) = absurd (stream fails.0)
not_reported audit source source_new sink sink_new status why (inr (inr fails)) (failed is puts) = source_failed fails.1 puts
not_reported audit source source_new sink sink_new status why (inr (inl lacks)) (failed is puts) = absurd (cc)
not_reported audit source source_new sink sink_new status why (inl answer) (failed is puts) = absurd (never_refused answer is)
  where
    never_refused : WorldAnswer audit source.left source_new.left (Err why) → why ≡ Stream → ⊥
    never_refused (reported text report script whole is taken reports prints) e = absurd prints
    never_refused (refused text other whole (at_fault (faults.AtLine number) first same) outcome) e = absurd (cc)
    never_refused (refused text other whole (at_fault (faults.Schema first) is same) outcome) e = absurd (cc)
    never_refused (refused text other whole (not_confluent script schema which example is declares refuted same) outcome) e = absurd (cc)
