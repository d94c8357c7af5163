use Rattle.std.proofs.Common.{refl, ap, ◌∙◌}
use Rattle.tuple_state.specs.Links.{are_inside}
use Rattle.tuple_state.proofs.Linking.{link_at, thread_end, thread_step}
use Rattle.tuple_state.proofs.links.thread.Goals as goal

pub loop-index-preserved : goal.loop-index-preserved
loop-index-preserved c =
    thread_step c.loop-index.newest c.loop-index.older c.args.links.now c.loop-index.index _ _ (c.loop-index.auto.older ∙ c.requires.each)
    (ap (λ n. are_inside n c.args.links.now) c.loop-index.auto.newest ∙ c.requires.inside) (link_at c.args.links.now c.loop-index.index _ c.loop-index-test.true) refl c.loop-index.invariant

pub returns : goal.returns
returns c =
    thread_end c.loop-index.newest c.loop-index.older c.args.links.now c.loop-index.index c.loop-index-test.false (c.loop-index.auto.older ∙ c.requires.each)
    (ap (λ n. are_inside n c.args.links.now) c.loop-index.auto.newest ∙ c.requires.inside) c.loop-index.invariant
