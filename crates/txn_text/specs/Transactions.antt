-- Which texts are transactions, and the first fault of those that are none.
use Rattle.std.specs.Prelude.{◌≡◌, ℕ, ◌+◌, ◌-◌, ◌<◌, ◌≤◌, Bool, true, false, ◌||◌, nat_le, List, [], ◌∷◌, length, IsTrue, ◌⊎◌}
use Rattle.std.specs.Str.{IsValidUpTo}
use Rattle.update_model.specs.declared.op.Op.{Op}
use Rattle.text_words.specs.Lines.{lines_of}
use Rattle.text_words.specs.Words.{skip_blanks}
use Rattle.schema.specs.declared.table_def.TableDef.{TableDef}
use Rattle.schema.specs.Data.{SchemaData}
use Rattle.txn_text.specs.declared.fault.TextKind.{TextKind}
use Rattle.txn_text.specs.declared.fault.TextKind.TheVariants.{NotUtf8, TooLong, UnknownWord, UnknownTable, NotAValue, TextTooLong, LaterLine, WrongNumber, TooManyOperations}
use Rattle.txn_text.specs.declared.limits.TheConstants.{MAX_TRANSACTION_BYTES}
use Rattle.txn_text.specs.declared.stop.Wrong.{Wrong}
use Rattle.txn_text.specs.Operations.{IsBlank, IsOperation, GoesWrong}

abbrev pub is_not_utf8 : TextKind → Bool
is_not_utf8 UnknownWord = false
is_not_utf8 UnknownTable = false
is_not_utf8 NotAValue = false
is_not_utf8 TextTooLong = false
is_not_utf8 LaterLine = false
is_not_utf8 WrongNumber = false
is_not_utf8 TooManyOperations = false
is_not_utf8 NotUtf8 = true
is_not_utf8 TooLong = false

-- the place of what is wrong in a line, from 0
abbrev pub place_in : List ℕ → Wrong → ℕ
place_in line wrong = length line - wrong.left

-- whether a front of so many bytes ends at what is wrong or before it, or inside a text that is wrong for this
abbrev pub ends_before : List ℕ → Wrong → ℕ → Bool
ends_before line wrong front = is_not_utf8 wrong.kind || nat_le front (place_in line wrong)

-- The longest front of the line that is UTF-8 has so many bytes, and ends before what is wrong.
pub record IsCutShort (line : List ℕ) (wrong : Wrong) (front : ℕ) : Type 0 where
  pub longest : IsValidUpTo line front
  pub here : IsTrue (ends_before line wrong front)

-- What is wrong in a line is a fault of this kind in this column, from 1, unless the line is cut short by a byte that is
-- not UTF-8: then that byte is.
abbrev pub IsSeen : List ℕ → Wrong → TextKind → ℕ → Type 0
IsSeen line wrong kind column =
    ((front : ℕ) × IsCutShort line wrong front × (kind ≡ NotUtf8) × (column ≡ front + 1))
    ⊎ (((front : ℕ) → IsCutShort line wrong front → ⊥) × (kind ≡ wrong.kind) × (column ≡ place_in line wrong + 1))

-- The first fault of a line, which is not blank.
pub record LineFault (tables : List TableDef) (before : ℕ) (line : List ℕ) (kind : TextKind) (column : ℕ) : Type 0 where
  pub says : ¬ IsBlank line
  pub wrong : Wrong
  pub goes : GoesWrong tables before (skip_blanks line) wrong
  pub seen : IsSeen line wrong kind column

-- A line is this operation.
abbrev pub LineIs : List TableDef → ℕ → List ℕ → Op → Type 0
LineIs tables before line op = (¬ IsBlank line) × IsOperation tables before (skip_blanks line) op

-- After so many operations, these lines are these: a blank line is none, and any other is one.
abbrev pub LinesAre : List TableDef → ℕ → List (List ℕ) → List Op → Type 0
LinesAre tables before [] ops = ops ≡ []
LinesAre tables before (line ∷ lines) ops =
    (IsBlank line × LinesAre tables before lines ops)
    ⊎ ((op : Op) × (rest : List Op) × LineIs tables before line op × LinesAre tables (before + 1) lines rest × (ops ≡ op ∷ rest))

-- After so many operations, these lines, which number from here, have their first fault of this kind in this line and
-- column: in the first of them, or after a blank line or an operation in the others.
abbrev pub FaultIn : List TableDef → ℕ → ℕ → List (List ℕ) → TextKind → ℕ → ℕ → Type 0
FaultIn tables before number [] kind line column = ⊥
FaultIn tables before number (first ∷ lines) kind line column =
    (LineFault tables before first kind column × (line ≡ number))
    ⊎ ((IsBlank first × FaultIn tables before (number + 1) lines kind line column)
    ⊎ ((op : Op) × LineIs tables before first op × FaultIn tables (before + 1) (number + 1) lines kind line column))

-- A text that is not too long is the operations of its lines.
abbrev pub Reads : SchemaData → List ℕ → List Op → Type 0
Reads schema text ops = (length text ≤ MAX_TRANSACTION_BYTES) × LinesAre schema.tables 0 (lines_of text) ops

-- The first fault of a text: a text of more bytes is too long, at its first byte.
abbrev pub FirstFault : SchemaData → List ℕ → TextKind → ℕ → ℕ → Type 0
FirstFault schema text kind line column =
    ((MAX_TRANSACTION_BYTES < length text) × (kind ≡ TooLong) × (line ≡ 1) × (column ≡ 1))
    ⊎ ((length text ≤ MAX_TRANSACTION_BYTES) × FaultIn schema.tables 0 1 (lines_of text) kind line column)
