use Rattle.std.proofs.Common.{take, slice_index_or, []}
use Rattle.update_model.specs.declared.update_id.UpdateId.{UpdateId}
use Rattle.update_model.specs.Entry.{same_id}
use Rattle.update_model.specs.Graph.{has}
use Rattle.sync_session.proofs.IdSets.{put_in, has-take_more}
use Rattle.sync_session.proofs.ids.join.Goals as goal

pub loop-id-preserved : goal.loop-id-preserved
loop-id-preserved c = record {
  exact = λ q.
      let none : UpdateId = record { 0 = [] } in
      let id = slice_index_or c.args.ids.now c.loop-id.id-index none in
      rw (has-take_more c.args.ids.now c.loop-id.id-index none q c.loop-id-test.true)
      (put_in (has c.loop-id.set.keys q) (has c.insert.new.self.keys q) (has c.args.set.now.keys q) (has (take c.loop-id.id-index c.args.ids.now) q) (same_id id q)
      (c.in_ok-insert.ensures.updates.0 q) (c.loop-id.invariant.exact q));
  rising = c.in_ok-insert.ensures.ordered;
}
