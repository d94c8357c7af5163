-- What a call that reads a transaction returned.
use Rattle.std.specs.Prelude.{◌≡◌, ℕ, ◌≤◌, List, [], ◌∷◌, ◌++◌, length, Result, Ok, Err, ◌⊎◌}
use Rattle.update_model.specs.declared.limits.TheConstants.{MAX_OPS, MAX_VALUES}
use Rattle.update_model.specs.declared.op.Op.{Op}
use Rattle.update_model.specs.Rows.{AreOps}
use Rattle.text_words.specs.Lines.{lines_of}
use Rattle.schema.specs.declared.table_def.TableDef.{TableDef}
use Rattle.schema.specs.Data.{SchemaData}
use Rattle.txn_text.specs.declared.fault.TextError.{TextError}
use Rattle.txn_text.specs.declared.fault.TextError.TheVariants as error
use Rattle.txn_text.specs.declared.stop.Stop.{Stop}
use Rattle.txn_text.specs.declared.stop.Stop.TheVariants as stop
use Rattle.txn_text.specs.declared.stop.Wrong.{Wrong}
use Rattle.txn_text.specs.declared.verb.Verb.{Verb}
use Rattle.txn_text.specs.declared.verb.Verb.TheVariants as verb
use Rattle.txn_text.specs.Operations.{IsBlank}
use Rattle.txn_text.specs.Transactions.{FirstFault, FaultIn, LineFault, LineIs}

-- A call stopped for what is wrong, of which this holds, or for want of memory.
abbrev pub IsStop : Stop → (Wrong → Type 0) → Type 0
IsStop (stop.Fault wrong) P = P wrong
IsStop stop.Memory P = Unit {0}

-- A fault comes where it is the first one; want of memory may come wherever it likes.
abbrev pub HasCause : SchemaData → List ℕ → TextError → Type 0
HasCause schema text (error.Fault fault) = FirstFault schema text fault.kind fault.line fault.column
HasCause schema text error.Memory = Unit {0}

-- A fault of one line comes where it is that line's, with its number.
abbrev pub HasLineCause : List TableDef → ℕ → ℕ → List ℕ → TextError → Type 0
HasLineCause tables before number line (error.Fault fault) = LineFault tables before line fault.kind fault.column × (fault.line ≡ number)
HasLineCause tables before number line error.Memory = Unit {0}

-- A fault of lines is their first one.
abbrev pub HasFaultIn : List TableDef → List ℕ → TextError → Type 0
HasFaultIn tables text (error.Fault fault) = FaultIn tables 0 1 (lines_of text) fault.kind fault.line fault.column
HasFaultIn tables text error.Memory = Unit {0}

-- It is these operations, unless memory ran out.
abbrev pub Answers : Result (List Op) TextError → List Op → Type 0
Answers (Ok ops) wanted = ops ≡ wanted
Answers (Err (error.Fault fault)) wanted = ⊥
Answers (Err error.Memory) wanted = Unit {0}

-- Operations that a body may hold.
pub record MayStand (ops : List Op) : Type 0 where
  pub few : length ops ≤ MAX_OPS
  pub form : AreOps 0 ops

-- An insert has from one to as many columns as a row may have values.
abbrev pub IsVerb : Verb → Type 0
IsVerb (verb.Insert table columns) = (1 ≤ columns) × (columns ≤ MAX_VALUES)
IsVerb verb.Delete = Unit {0}

-- After these operations a line was taken: it is blank, or the operation that was added.
abbrev pub IsTaken : List TableDef → List Op → List ℕ → List Op → Type 0
IsTaken tables ops line next = (IsBlank line × (next ≡ ops)) ⊎ ((op : Op) × LineIs tables (length ops) line op × (next ≡ ops ++ op ∷ []))
