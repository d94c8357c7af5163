-- Queries whose answers rise by the names of rows, and such lines.
use Rattle.std.specs.Prelude.{◌≡◌, ℕ, List, [], ◌∷◌, None, replicate}
use Rattle.std.specs.declared.cmp.Ordering.{Ordering}
use Rattle.std.specs.List.Sorted.{IsStrictlySortedBy}
use Rattle.update_model.specs.declared.row_name.RowName.{RowName}
use Rattle.update_model.specs.declared.value.Value.{Value}
use Rattle.update_model.specs.declared.value.Value.TheVariants as value
use Rattle.table_model.specs.Tables.{name_cmp}
use Rattle.query.specs.declared.item.Item.{Item}
use Rattle.query.specs.declared.source.Source.TheVariants as source
use Rattle.query.specs.Queries.{QueryData}

-- The first of these columns is the name of the row.
abbrev pub BeginWithName : List Item → Type 0
BeginWithName [] = ⊥
BeginWithName (item ∷ items) = item.source ≡ source.Name

-- The first column is the name of the row, as `ROW` and `*` alone make it, and there are neither keys of an order nor a limit.
pub record IsNamed (query : QueryData) : Type 0 where
  pub columns : BeginWithName query.columns
  pub keys : query.keys ≡ []
  pub limit : query.limit ≡ None

-- the name that stands for none
abbrev pub no_name : RowName
no_name = record { update = record { 0 = replicate 32 0 }; index = 0 }

-- the name of the row that a line begins with
abbrev pub name_in : List Value → RowName
name_in (value.Row name ∷ values) = name
name_in other = no_name

-- lines by the names of their rows
abbrev pub named_cmp : List Value → List Value → Ordering
named_cmp a b = name_cmp (name_in a) (name_in b)

-- Each line is of a lesser row than those behind it.
abbrev pub RiseByName : List (List Value) → Type 0
RiseByName lines = IsStrictlySortedBy named_cmp lines
