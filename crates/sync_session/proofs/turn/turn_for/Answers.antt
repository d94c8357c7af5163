use Rattle.sync_session.proofs.Turning.{turn_asks}
use Rattle.sync_session.proofs.turn.turn_for.Goals as goal

pub asking-requires-clause-few : goal.asking-requires-clause-few
asking-requires-clause-few g c = (turn_asks _ c.from_vec.result c.in_ok-ids.ids.items c.from_vec.ensures c.in_ok-ids.ensures.least).few

pub asking-requires-clause-rising : goal.asking-requires-clause-rising
asking-requires-clause-rising g c = (turn_asks _ c.from_vec.result c.in_ok-ids.ids.items c.from_vec.ensures c.in_ok-ids.ensures.least).rising
