use Rattle.std.proofs.Common.{map, not, ap, ◌∙◌}
use Rattle.ready_batch.proofs.Answering.{no_position}
use Rattle.ready_batch.proofs.tried.first_lacking.Goals as goal

pub returns-then-is_none : goal.returns-then-is_none
returns-then-is_none g c =
    no_position (map g.M.Member.entry c.args.graph.now) c.args.ids.now c.loop-position.position _ c.position.result c.loop-position-test.true c.position.ensures
    (c.is_none.ensures ∙ ap not c.if-is_none.true)
