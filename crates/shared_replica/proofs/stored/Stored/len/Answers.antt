use Rattle.std.proofs.Common.{length, ap, ◌∙◌}
use Rattle.shared_replica.proofs.Growing.{known, updates_now}
use Rattle.shared_replica.proofs.stored.Stored.len.Goals as goal

pub returns-clause-value : goal.returns-clause-value
returns-clause-value g c = c.len.ensures.value ∙ ap length (updates_now _ _ _ _ _ c.self.invariant _ c.self.view_is)

pub returns-clause-list : goal.returns-clause-list
returns-clause-list g c = known _ _ _ _ _ c.self.invariant _ c.self.view_is
