use Rattle.std.proofs.Common.{ℕ, Bool, ◌&&◌}
use Rattle.row_check.specs.declared.cmp.Cmp.TheVariants.{Eq}
use Rattle.row_check.specs.Comparisons.{compares}
use Rattle.row_check.specs.Meaning.{value_at}
use Rattle.table_model.specs.Verdicts.{in_table}
use Rattle.tuple_state.proofs.Counting.{tested}
use Rattle.tuple_state.proofs.at.At.equals_in.Goals as goal

pub returns-then-equals_at : goal.returns-then-equals_at
returns-then-equals_at g c =
    let past : ℕ → Bool = λ p. g.A.Ancestors.ancestor c.args.self.now.ancestors.now p c.args.self.now.position in
    tested c.args.self.now.tables.now past (λ row. in_table c.args.table row && compares Eq (value_at row.values c.args.column) c.args.value.now) c.args.place c.stands.result
    c.equals_at.result c.if-equals_at.true c.equals_at.ensures c.stands.ensures
