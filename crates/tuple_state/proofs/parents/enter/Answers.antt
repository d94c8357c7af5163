use Rattle.std.proofs.Common.{◌++◌, refl}
use Rattle.tuple_state.proofs.Gathering.{groups_at, take_before}
use Rattle.tuple_state.proofs.parents.enter.Goals as goal

pub returns-in-Err-clause-groups : goal.returns-in-Err-clause-groups
returns-in-Err-clause-groups c =
    let rows = c.args.rows.now in
    let inserted = c.args.inserted.now in
    groups_at refl (take_before rows inserted) (c.cut.ensures c.args.shapes.now (rows ++ inserted) c.in_ok-grow.ensures)
