-- Queries as contracts see them.
use Rattle.std.specs.Prelude.{List, refl}
use Rattle.std.specs.Coded.{Coded, code_by, coded×, coded_list}
use Rattle.row_check.specs.Kinds.{HasKinds}
use Rattle.row_check.specs.Trees.{Tree}
use Rattle.schema.specs.Checks.{coded_tree}
use Rattle.query.specs.contracts.source.Slot as slot
use Rattle.query.specs.declared.source.Slot.{Slot}
use Rattle.query.specs.Columns.{seen_kinds}

-- a condition: a question about the columns that it names, which number in the order in which they are first named
pub record ConditionData : Type 0 where
  pub tree : Tree
  pub slots : List Slot

abbrev pub coded_condition : Coded ConditionData
coded_condition =
    code_by (Tree × List Slot) (coded× coded_tree (coded_list slot.the_row.coded)) (λ c. (c.tree, c.slots)) (λ p. record { tree = p.0; slots = p.1 }) (λ _. refl)

-- It may be asked of values of the kinds that it sees.
abbrev pub IsSound : ConditionData → Type 0
IsSound condition = HasKinds (seen_kinds condition.slots) condition.tree
