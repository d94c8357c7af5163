use Rattle.std.proofs.Common.{◌∙◌, refl}
use Rattle.sync_session.proofs.Hellos.{ids_more}
use Rattle.sync_session.proofs.greeting.ids_at.Goals as goal

pub loop-position-preserved : goal.loop-position-preserved
loop-position-preserved g c =
    c.in_ok-push.ensures.items ∙ ids_more (g.H.Holder.members c.args.holder.now) c.args.positions.now c.loop-position.position-index _ c.id_at.result c.loop-position.ids.items refl c.loop-position-test.true c.id_at.ensures c.loop-position.invariant
