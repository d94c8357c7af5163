use Rattle.bec_disk.proofs.Records.{replayed-step}
use Rattle.bec_disk.proofs.replaying.replay.Goals as goal

pub loop-call-preserved : goal.loop-call-preserved
loop-call-preserved c = replayed-step _ _ _ _ _ _ c.loop-call-test.true c.call-item.is c.loop-call.invariant c.in_ok-apply.ensures
