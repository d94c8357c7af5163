use Rattle.tuple_state.proofs.Walking.{last_tells}
use Rattle.tuple_state.proofs.parents.comes_last.Goals as goal

pub returns-in-Some : goal.returns-in-Some
returns-in-Some c = last_tells c.args.places.now.keys c.in-Some.last.now c.args.place _ c.in-Some.ensures.last c.in-Some.ensures.all_up_to
