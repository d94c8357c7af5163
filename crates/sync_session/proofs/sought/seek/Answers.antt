use Rattle.std.proofs.Common.{[]}
use Rattle.std.specs.BTreeMap.{keys}
use Rattle.update_model.specs.declared.update_id.UpdateId.{UpdateId as Id}
use Rattle.sync_session.proofs.Wanting.{put_key, seek_more}
use Rattle.sync_session.proofs.sought.seek.Goals as goal

pub loop-id-preserved : goal.loop-id-preserved
loop-id-preserved c =
    let none : Id = record { 0 = [] } in
    seek_more (keys c.args.sought.now) (keys c.loop-id.sought) (keys c.insert.new.self) c.args.ids.now c.loop-id.id-index none c.loop-id-test.true c.loop-id.invariant
    (λ q. put_key c.loop-id.sought c.insert.new.self _ _ q (c.in_ok-insert.ensures.updates.0 q))
