-- What a call that reads a script returned.
use Rattle.std.specs.Prelude.{◌≡◌, ℕ, List, Result, Ok, Err}
use Rattle.schema.specs.Data.{Meaning}
use Rattle.schema_text.specs.Schemas.{FirstFault as FirstSchemaFault}
use Rattle.world_script.specs.declared.fault.ScriptError.{ScriptError}
use Rattle.world_script.specs.declared.fault.ScriptError.TheVariants.{Fault, Memory}
use Rattle.world_script.specs.declared.fault.ScriptFault.{ScriptFault}
use Rattle.world_script.specs.declared.fault.ScriptFault.TheVariants.{Schema, AtLine}
use Rattle.world_script.specs.declared.script.Script.{Script}
use Rattle.world_script.specs.Scripts.{FirstFault}

-- An error comes where this holds of its fault; want of memory may come wherever it likes.
abbrev pub IfFault : ScriptError → (ScriptFault → Type 0) → Type 0
IfFault (Fault fault) P = P fault
IfFault Memory P = Unit {0}

-- A fault is the first one.
abbrev pub HasCause : Meaning → List ℕ → ScriptError → Type 0
HasCause ask text error = IfFault error (FirstFault ask text)

-- a fault of the schema
abbrev pub OfSchema : Meaning → List ℕ → ScriptFault → Type 0
OfSchema ask text (Schema fault) = FirstSchemaFault ask text fault.kind fault.line
OfSchema ask text (AtLine number) = ⊥

-- a fault of a line after the schema, where this is the number of the line
abbrev pub OfLine : (ℕ → Type 0) → ScriptFault → Type 0
OfLine P (Schema fault) = ⊥
OfLine P (AtLine number) = P number

-- It is this script, unless memory ran out.
abbrev pub Answers : Result Script ScriptError → Script → Type 0
Answers (Ok script) wanted = script ≡ wanted
Answers (Err (Fault fault)) wanted = ⊥
Answers (Err Memory) wanted = Unit {0}
