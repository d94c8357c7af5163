use Rattle.history.proofs.Fronts.{all_state}
use Rattle.history.proofs.history.History.tables.Goals as goal

pub returns : goal.returns
returns g c = let at = c.self.inside in rw (← c.self.view_is) (all_state g.L.Relation.answer at.schema at.graph at.views c.self.invariant.are)
