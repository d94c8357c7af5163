use Rattle.tuple_state.proofs.Gathering.{groups_none}
use Rattle.tuple_state.proofs.groups.Groups.new.Goals as goal

pub returns : goal.returns
returns c shapes = groups_none shapes _ c.new.ensures c.new-2.ensures.items c.new-3.ensures.items c.new-4.ensures.items
