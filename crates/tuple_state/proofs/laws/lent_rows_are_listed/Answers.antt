use Rattle.tuple_state.proofs.Listing.{arrived_distinct, arrived_shown}
use Rattle.tuple_state.proofs.laws.lent_rows_are_listed.Goals as goal

pub returns-clause-distinct : goal.returns-clause-distinct
returns-clause-distinct c rules nodes state table held = arrived_distinct rules nodes state held table

pub returns-clause-shown : goal.returns-clause-shown
returns-clause-shown c = arrived_shown
