use Rattle.std.proofs.Common.{ℕ, Bool}
use Rattle.table_model.specs.Verdicts.{in_table}
use Rattle.tuple_state.proofs.Counting.{tested}
use Rattle.tuple_state.proofs.at.At.stands_in.Goals as goal

pub returns-then-is_in : goal.returns-then-is_in
returns-then-is_in g c =
    let past : ℕ → Bool = λ p. g.A.Ancestors.ancestor c.args.self.now.ancestors.now p c.args.self.now.position in
    tested c.args.self.now.tables.now past (in_table c.args.table) c.args.place c.stands.result c.is_in.result c.if-is_in.true c.is_in.ensures c.stands.ensures
