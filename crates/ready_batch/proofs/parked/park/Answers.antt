use Rattle.ready_batch.proofs.Parking.{noted, noted_still}
use Rattle.ready_batch.proofs.parked.park.Goals as goal

pub returns-clause-noted : goal.returns-clause-noted
returns-clause-noted c =
    noted c.release-places.new.parked c.insert.new.self c.args.id c.release-places.result c.push.new.self c.args.place c.in_ok-push.ensures.items c.in_ok-insert.ensures.updates.0

pub returns-clause-kept : goal.returns-clause-kept
returns-clause-kept c q i parked =
    noted_still c.release-places.new.parked c.insert.new.self c.args.id c.release-places.result c.push.new.self c.args.place q i c.in_ok-push.ensures.items c.in_ok-insert.ensures.updates.0
    (c.release-places.ensures q i parked)
