-- Steps of filling a row.
use Rattle.std.proofs.Common.{◌≡◌, ℕ, ◌+◌, List, [], ◌∷◌, refl, ap, None}
use Rattle.update_model.specs.declared.row_name.RowName.{RowName}
use Rattle.update_model.specs.declared.value.Value.{Value}
use Rattle.schema.specs.declared.column.Column.{Column}
use Rattle.schema.specs.Columns.{target_of}
use Rattle.table_model.specs.Visible.{Rules, table_of}
use Rattle.confluence_laws.specs.Examples.{Item, fill, filled, filled_but, item_of, item_naming, row_numbered}

plain_but : (items : List Item) (name : RowName) (number : ℕ) (columns : List Column) (sample : List Value) → filled_but items None name number columns sample ≡ filled items columns sample
plain_but items name number [] vs = refl
plain_but items name number (c ∷ cs) [] = refl
plain_but items name number (c ∷ cs) (v ∷ vs) = ap (λ l. fill items c.null (target_of c.kind) v ∷ l) (plain_but items name (number + 1) cs vs)

-- a needed row names no row of its own
pub plain_item : (rules : Rules) (items : List Item) (table number : ℕ) → item_naming rules items table None number ≡ item_of rules items table
plain_item rules items table number = ap (λ (l : List Value). record { table = table; values = l }) (plain_but items (row_numbered number) 0 (table_of rules table).columns (table_of rules table).sample)
