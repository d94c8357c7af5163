use Rattle.tuple_state.specs.Links.{latest}
use Rattle.tuple_state.proofs.links.Links.cut.Goals as goal

pub thread-requires-clause-last : goal.thread-requires-clause-last
unfolding latest
thread-requires-clause-last c place below = c.forget.ensures place
