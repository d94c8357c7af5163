-- The operations of a line, which semicolons outside quotes part. `;` is the byte 59, `"` is 34, the backslash is 92, LF is 10
-- and CR is 13.
use Rattle.std.specs.Prelude.{◌≡◌, ℕ, ◌+◌, ◌==◌, Bool, false, List, [], ◌∷◌, length, Option, Some, None, if◌then◌else◌}
use Rattle.std.specs.List.{list_any}
use Rattle.update_model.specs.declared.op.Op.{Op}
use Rattle.schema.specs.Data.{SchemaData}
use Rattle.txn_text.specs.Transactions.{Reads}
use Rattle.world_script.specs.declared.operations.Quoting.{Quoting}
use Rattle.world_script.specs.declared.operations.Quoting.TheVariants.{Outside, Inside, Escaped}

abbrev pub is_cr : ℕ → Bool
is_cr byte = byte == 13

-- where the byte after this one stands
abbrev pub quoting_after : Quoting → ℕ → Quoting
quoting_after Outside byte = if byte == 34 then Inside else Outside
quoting_after Inside byte = if byte == 34 then Outside else if byte == 92 then Escaped else Inside
quoting_after Escaped byte = Inside

-- a semicolon that parts two operations
abbrev pub parts_here : Quoting → ℕ → Bool
parts_here Outside byte = byte == 59
parts_here Inside byte = false
parts_here Escaped byte = false

-- the text with a line for each operation
abbrev pub parted : Quoting → List ℕ → List ℕ
parted quoting [] = []
parted quoting (byte ∷ rest) = (if parts_here quoting byte then 10 else byte) ∷ parted (quoting_after quoting byte) rest

-- how many semicolons part operations
abbrev pub part_count : Quoting → List ℕ → ℕ
part_count quoting [] = 0
part_count quoting (byte ∷ rest) = (if parts_here quoting byte then 1 else 0) + part_count (quoting_after quoting byte) rest

-- These are the lines of the operations, and so many.
pub record IsParted (text out : List ℕ) (number : ℕ) : Type 0 where
  pub lines : out ≡ parted Outside text
  pub count : number ≡ part_count Outside text + 1

-- operations where there are so many
abbrev pub if_so_many : List Op → ℕ → Option (List Op)
if_so_many ops count = if length ops == count then Some ops else None

-- A text is these operations: each piece between semicolons is one, as in a transaction whose lines they are, and in none of
-- them a CR stands.
pub record AreOperations (schema : SchemaData) (text : List ℕ) (ops : List Op) : Type 0 where
  pub no_cr : list_any is_cr text ≡ false
  pub reads : Reads schema (parted Outside text) ops
  pub each : length ops ≡ part_count Outside text + 1
