use Rattle.tuple_state.proofs.Walking.{below_taken}
use Rattle.tuple_state.proofs.parents.take_last.Goals as goal

pub returns-clause-last : goal.returns-clause-last
returns-clause-last c = below_taken c.pop_last.result c.pop_last.new.self.keys c.pop_last.ensures.all_below
