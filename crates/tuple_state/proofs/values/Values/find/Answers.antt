use Rattle.tuple_state.proofs.Valuing.{nothing_found}
use Rattle.tuple_state.proofs.values.Values.find.Goals as goal

pub returns-in-None : goal.returns-in-None
returns-in-None c shapes rows column firsts kept = nothing_found shapes c.args.table column c.args.value.now rows (rw c.in-None.is at c.in_ok-key.ensures)
