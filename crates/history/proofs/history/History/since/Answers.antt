use Rattle.std.proofs.Common.{◌≤◌, length, sym, subst}
use Rattle.history.specs.Histories.{HistoryData}
use Rattle.history.proofs.history.History.since.Goals as goal

pub positions_since-requires-clause-held : goal.positions_since-requires-clause-held
positions_since-requires-clause-held g c = subst (λ (h : HistoryData). c.args.below ≤ length h.members) (sym c.self.view_is) c.requires

pub positions_since-requires-clause-places : goal.positions_since-requires-clause-places
positions_since-requires-clause-places g c = c.self.invariant.are.places

pub returns : goal.returns
returns g c = rw (← c.self.view_is) c.positions_since.ensures
