use Rattle.tuple_state.proofs.Linking.{Threaded}
use Rattle.tuple_state.proofs.links.thread.Given as goal

-- the last links are known of the links so far
abbrev pub invariant-loop-index : goal.invariant-loop-index
invariant-loop-index l = Threaded l.newest l.older l.links l.index
