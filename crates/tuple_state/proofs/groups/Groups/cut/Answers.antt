use Rattle.tuple_state.proofs.Gathering.{groups_cut}
use Rattle.tuple_state.proofs.groups.Groups.cut.Goals as goal

pub returns : goal.returns
returns c shapes rows are = groups_cut are _ c.args.len c.cut.ensures c.truncate.ensures.items c.truncate-2.ensures.items c.truncate-3.ensures.items
