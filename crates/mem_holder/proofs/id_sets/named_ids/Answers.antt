use Rattle.mem_holder.proofs.Heads.{named_next}
use Rattle.mem_holder.proofs.id_sets.named_ids.Goals as goal

pub loop-position-preserved : goal.loop-position-preserved
loop-position-preserved c =
    named_next c.args.graph.now c.loop-position.position c.at.result.now c.preds.result.now c.loop-position.named.keys c.insert_all.new.set.keys c.at.ensures c.preds.ensures.value c.in_ok-insert_all.ensures
    c.loop-position.invariant
