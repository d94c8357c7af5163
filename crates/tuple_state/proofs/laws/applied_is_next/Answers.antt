use Rattle.tuple_state.specs.State.{after, state_of}
use Rattle.tuple_state.proofs.laws.applied_is_next.Goals as goal

pub returns : goal.returns
unfolding state_of
returns c rules nodes state node verdict held next is = record {
  tables = held.tables;
  closed = (next, held.closed);
  is = λ i. after (held.is i) node (is i);
}
