use Rattle.std.proofs.Common.{[]}
use Rattle.update_model.specs.declared.update_id.UpdateId.{UpdateId}
use Rattle.update_model.specs.Graph.{has}
use Rattle.peer_memory.proofs.IdLists.{put_in}
use Rattle.peer_memory.proofs.ids.set_of.Goals as goal

pub loop-id-preserved : goal.loop-id-preserved
loop-id-preserved c = record {
  exact = λ q.
      let none : UpdateId = record { 0 = [] } in
      put_in c.args.ids.now c.loop-id.id-index none q (has c.loop-id.set.keys q) (has c.insert.new.self.keys q) c.loop-id-test.true
      (c.in_ok-insert.ensures.updates.0 q) (c.loop-id.invariant.exact q);
  rising = c.in_ok-insert.ensures.ordered;
}
