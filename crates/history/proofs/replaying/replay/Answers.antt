use Rattle.history.specs.Arrivals.{places_of}
use Rattle.history.proofs.replaying.replay.Goals as goal

pub loop-position-init : goal.loop-position-init
unfolding places_of
loop-position-init g c = record {
  state = c.in_ok-tables.ensures g.L.Relation.answer;
  places = c.new-ancestry.ensures;
}
