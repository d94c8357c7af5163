use Rattle.std.proofs.Common.{[]}
use Rattle.update_model.specs.declared.update_id.UpdateId.{UpdateId}
use Rattle.mem_holder.proofs.Heads.{id_put_in}
use Rattle.mem_holder.proofs.id_sets.insert_all.Goals as goal

pub loop-id-preserved : goal.loop-id-preserved
loop-id-preserved c = λ q.
    let none : UpdateId = record { 0 = [] } in
    id_put_in c.args.ids.now c.loop-id.id-index none c.loop-id.set.keys c.insert.new.self.keys c.args.set.now.keys q c.loop-id-test.true (c.in_ok-insert.ensures.updates.0 q) (c.loop-id.invariant q)
