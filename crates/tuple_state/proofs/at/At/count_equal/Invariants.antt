use Rattle.std.proofs.Common.{◌≡◌, ◌&&◌, take}
use Rattle.std.specs.Prelude.{count_by}
use Rattle.row_check.specs.declared.cmp.Cmp.TheVariants.{Eq}
use Rattle.row_check.specs.Comparisons.{compares}
use Rattle.row_check.specs.Meaning.{value_at}
use Rattle.table_model.specs.Verdicts.{in_table}
use Rattle.tuple_state.proofs.Counting.{seen_on}
use Rattle.tuple_state.proofs.at.At.count_equal.Given as goal

-- the rows so far are counted
abbrev pub invariant-loop-place : goal.invariant-loop-place
invariant-loop-place g l =
    l.count ≡ count_by (seen_on l.self.tables.now (λ p. g.A.Ancestors.ancestor l.self.ancestors.now p l.self.position)
    (λ row. in_table l.table row && compares Eq (value_at row.values l.column) l.value)) (take l.place l.self.tables.now.inserted)
