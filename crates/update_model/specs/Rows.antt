-- Names of rows, values and operations in form, machine ranges included.
use Rattle.std.specs.Prelude.{ℕ, ◌+◌, ◌^◌, ◌<◌, ◌≤◌, List, [], ◌∷◌, length, FitsSigned}
use Rattle.std.specs.Int.{w64}
use Rattle.std.specs.List.{AllByRecursion}
use Rattle.update_model.specs.declared.limits.TheConstants.{MAX_VALUES}
use Rattle.update_model.specs.declared.row_name.RowName.{RowName}
use Rattle.update_model.specs.declared.value.Value.{Value}
use Rattle.update_model.specs.declared.value.Value.TheVariants.{Null, Int, Text, Flag, Row, Own}
use Rattle.update_model.specs.declared.op.Op.{Op}
use Rattle.update_model.specs.declared.op.Op.TheVariants.{Insert, Delete}
use Rattle.update_model.specs.Block.{IsId}
use Rattle.update_model.specs.Text.{IsText}

-- an update's id and the number of an operation there
pub record IsRowName (row : RowName) : Type 0 where
  pub update : IsId row.update
  pub index : row.index < 2 ^ 16

-- A value in the operation with this number: an own reference names an earlier operation.
abbrev pub IsValue : ℕ → Value → Type 0
IsValue number Null = Unit {0}
IsValue number (Int n) = FitsSigned w64 n
IsValue number (Text bytes) = IsText bytes
IsValue number (Flag flag) = Unit {0}
IsValue number (Row row) = IsRowName row
IsValue number (Own index) = index < number

-- The operation with this number: an insert gives one value or more, and not too many.
abbrev pub IsOp : ℕ → Op → Type 0
IsOp number (Insert table values) = (table < 256) × (1 ≤ length values) × (length values ≤ MAX_VALUES) × AllByRecursion (IsValue number) values
IsOp number (Delete row) = IsRowName row

-- operations that number from this one on
abbrev pub AreOps : ℕ → List Op → Type 0
AreOps number [] = Unit {0}
AreOps number (op ∷ ops) = IsOp number op × AreOps (number + 1) ops
