use Rattle.ready_batch.proofs.Parking.{one_more}
use Rattle.ready_batch.proofs.adding.all_places.Goals as goal

pub loop-place-preserved : goal.loop-place-preserved
loop-place-preserved c =
    one_more c.loop-place.places.items c.push.new.self.items c.loop-place.place c.in_ok-push.ensures.items c.loop-place.invariant
