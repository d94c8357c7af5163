use Rattle.std.proofs.Common.{ap, ◌∙◌}
use Rattle.std.specs.List.{list_all}
use Rattle.tuple_state.proofs.Walking.{all_inserted, link_added}
use Rattle.tuple_state.proofs.parents.add_parents.Goals as goal

pub loop-link-preserved : goal.loop-link-preserved
loop-link-preserved c test =
    link_added test c.args.links.now c.loop-link.link-index _ _ _ _ c.loop-link-test.true (c.loop-link.invariant test)
    (ap (list_all test) c.in_ok-insert.ensures.keys ∙ all_inserted test c.loop-link.pending.keys _)
