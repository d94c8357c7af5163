use Rattle.std.proofs.Common.{subst, arith}
use Rattle.update_model.specs.Batch.{store_limits}
use Rattle.update_check.specs.Holding.{IsHeld}
use Rattle.replica.specs.Replicas.{ReplicaState}
use Rattle.replica.proofs.holder.ReplicaLuhnLuhnHolder.len.Goals as goal

pub returns-clause-held : goal.returns-clause-held
returns-clause-held g c =
    let members = c.len.ensures.kept.members in
    subst (λ (r : ReplicaState). IsHeld store_limits r.history.schema.rule r.history.members) c.self.view_is
    (record { checked = members.checked; closed = members.closed; within = members.within; updates = omega arith; bytes = omega arith })
