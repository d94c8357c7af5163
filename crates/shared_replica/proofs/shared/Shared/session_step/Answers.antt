use Rattle.std.proofs.Common.{◌≡◌, ◌<◌, All, List, ℕ, IfOk, length, ap, subst, sym}
use Rattle.update_model.specs.Batch.{store_limits}
use Rattle.sync_session.specs.Kept.{updates_in, BelongsTo, GrowsBy, StepsTo}
use Rattle.shared_replica.specs.declared.entry.Entry.{Entry}
use Rattle.shared_replica.specs.Entries.{updates_of}
use Rattle.shared_replica.proofs.Going.{begins_taken, belongs_longer, under_longer}
use Rattle.shared_replica.proofs.Turns.{acts, gives}
use Rattle.shared_replica.proofs.shared.Shared.session_step.Goals as goal

pub session_step-answer-requires-clause-belongs : goal.session_step-answer-requires-clause-belongs
session_step-answer-requires-clause-belongs g c = let t = c.take-held.ensures in
    belongs_longer _ _ _ (begins_taken _ _ _ t.seen t.value) c.requires.belongs

pub session_step-answer-requires-clause-under : goal.session_step-answer-requires-clause-under
session_step-answer-requires-clause-under g c = let t = c.take-held.ensures in
    under_longer _ _ _ (begins_taken _ _ _ t.seen t.value) c.requires.under

pub give-requires-clause-added : goal.give-requires-clause-added
give-requires-clause-added g c =
    gives c.take-held.result.0 c.take-held.result.1 _ _ _ _ c.take-held.ensures.value c.seat.ensures c.act.ensures c.session_step-answer.ensures.grows

pub returns : goal.returns
returns g c =
    let t = c.take-held.ensures in
    let e = c.session_step-answer.ensures in
    let s = c.take-held.result.1 in
    let answer = c.session_step-answer.result in
    let session = c.session_step-answer.new.session in
    let seen : c.session_step-answer.new.self.entries ≡ c.give.result.seen = sym (ap (λ k. k.seen) c.give.ensures) in (
      s.entries,
      s.store,
      c.session_step-answer.new.self.store,
      acts c.take-held.result.0 s c.session_step-answer.new.self _ _ _ t.value c.seat.ensures c.act.ensures e.grows c.args.pass c.give.result t.lock t.seen t.number t.act t.unused t.alone t.others c.give.ensures,
      subst (λ (l : List Entry). IfOk answer (λ out. StepsTo store_limits c.args.session.now (updates_of s.entries) c.args.frame session out (updates_of l))) seen e.steps,
      subst (λ (l : List Entry). BelongsTo store_limits s.store.history.schema.rule session (updates_of l)) seen e.belongs,
      e.failed,
      subst (λ (l : List Entry). GrowsBy (updates_in c.args.session.now) (updates_of s.entries) (updates_of l)) seen e.gains,
      subst (λ (l : List Entry). IfOk answer (λ out. All (λ p. p < length (updates_of l)) out.send)) seen (subst (λ (us : List (List ℕ)). IfOk answer (λ out. All (λ p. p < length us) out.send)) (sym e.grows.after.updates) e.within),
    )
