use Rattle.std.proofs.Common.{ℕ, List, IfOk, ap, ◌∙◌, subst}
use Rattle.sync_session.specs.Kept.{BelongsTo}
use Rattle.sync_session.specs.Starts.{StartsAs}
use Rattle.update_model.specs.Batch.{store_limits}
use Rattle.update_model.specs.Rule.{RuleData}
use Rattle.shared_replica.proofs.Growing.{known, updates_now}
use Rattle.shared_replica.proofs.stored.Stored.session_start.Goals as goal

pub returns-clause-starts : goal.returns-clause-starts
returns-clause-starts g c =
    let members = updates_now _ _ _ _ _ c.self.invariant _ c.self.view_is in
    let node = c.node-node.ensures ∙ ap (λ s. s.store.node) c.self.view_is in
    let database = ap (λ r. r.database) c.behind-schema.view_is ∙ ap (λ r. r.database) c.rule.ensures ∙ ap (λ s. s.rule.database) c.schema.ensures ∙ ap (λ s. s.store.history.schema.rule.database) c.self.view_is in
    subst (λ (z : List ℕ × List ℕ × List (List ℕ)). IfOk c.start.result (λ p. StartsAs c.args.role z.0 z.1 c.args.recalled z.2 p.0 p.1)) (λ i. (database i, node i, members i)) c.start.ensures.starts

pub returns-clause-belongs : goal.returns-clause-belongs
returns-clause-belongs g c =
    let members = updates_now _ _ _ _ _ c.self.invariant _ c.self.view_is in
    subst (λ (z : RuleData × List (List ℕ)). IfOk c.start.result (λ p. BelongsTo store_limits z.0 p.0 z.1)) (λ i. ((c.self.view_is i).store.history.schema.rule, members i)) c.start.ensures.belongs

pub returns-clause-list : goal.returns-clause-list
returns-clause-list g c = known _ _ _ _ _ c.self.invariant _ c.self.view_is
