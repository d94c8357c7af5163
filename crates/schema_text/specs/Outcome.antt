-- What a call that reads a schema returned.
use Rattle.std.specs.Prelude.{◌≡◌, ℕ, List, Result, Ok, Err}
use Rattle.schema_text.specs.declared.fault.SchemaError.{SchemaError}
use Rattle.schema_text.specs.declared.fault.SchemaError.TheVariants.{Fault, Memory}
use Rattle.text_words.specs.Lines.{lines_of}
use Rattle.schema_text.specs.declared.draft.Draft.{Draft}
use Rattle.schema_text.specs.Drafts.{start}
use Rattle.schema_text.specs.Schemas.{FirstFault, LineFault, FaultIn}
use Rattle.schema.specs.Data.{Meaning, SchemaData}

-- A fault comes where it is the first one; want of memory may come wherever it likes.
abbrev pub HasCause : Meaning → List ℕ → SchemaError → Type 0
HasCause relation text (Fault fault) = FirstFault relation text fault.kind fault.line
HasCause relation text Memory = Unit {0}

-- A fault of one line comes where it is that line's, with its number.
abbrev pub HasLineCause : Meaning → Draft → ℕ → List ℕ → SchemaError → Type 0
HasLineCause relation draft number line (Fault fault) = LineFault relation draft line fault.kind × (fault.line ≡ number)
HasLineCause relation draft number line Memory = Unit {0}

-- A fault of lines is their first one.
abbrev pub HasFaultIn : Meaning → List ℕ → SchemaError → Type 0
HasFaultIn relation text (Fault fault) = FaultIn relation 1 start (lines_of text) fault.kind fault.line
HasFaultIn relation text Memory = Unit {0}

-- It is this schema, unless memory ran out.
abbrev pub Answers : Result SchemaData SchemaError → SchemaData → Type 0
Answers (Ok schema) wanted = schema ≡ wanted
Answers (Err (Fault fault)) wanted = ⊥
Answers (Err Memory) wanted = Unit {0}
