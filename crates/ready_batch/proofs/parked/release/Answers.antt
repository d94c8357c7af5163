use Rattle.std.proofs.Common.{sym}
use Rattle.ready_batch.proofs.Parking.{released_some, released_none}
use Rattle.ready_batch.proofs.parked.release.Goals as goal

pub returns-in-Some : goal.returns-in-Some
returns-in-Some c q i parked = released_some c.args.parked.now c.remove.new.self c.args.id.now c.in-Some.places q i (sym c.in-Some.ensures.value) c.remove.ensures.updates.0 parked

pub returns-in-None : goal.returns-in-None
returns-in-None c q i parked = released_none c.args.parked.now c.remove.new.self c.args.id.now c.new.result.items q i (sym c.in-None.ensures.value) c.remove.ensures.updates.0 parked
