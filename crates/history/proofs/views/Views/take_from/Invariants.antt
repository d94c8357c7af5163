use Rattle.history.specs.Kept.{AreViewsOf}
use Rattle.history.proofs.views.Views.take_from.Given as goal

-- the members so far are taken
abbrev pub invariant-loop-position : goal.invariant-loop-position
invariant-loop-position g l = AreViewsOf g.L.Relation.answer l.schema l.graph l.position l.self
