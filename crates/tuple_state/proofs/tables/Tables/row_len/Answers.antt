use Rattle.std.proofs.Common.{length, ap, arith}
use Rattle.tuple_state.proofs.Fronts.{few_rows}
use Rattle.tuple_state.proofs.tables.Tables.row_len.Goals as goal

pub returns-clause-few : goal.returns-clause-few
returns-clause-few c =
    let few = few_rows c.self.inside.rows.items c.self.inside.count c.self.invariant.dated c.self.invariant.bounded in
    let most = c.self.invariant.few in
    let len = c.as_slice.ensures.len in
    let value = ap length c.as_slice.ensures.value in
    omega (arith, few, most, len, value)
