use Rattle.std.proofs.Common.{◌≡◌, ◌∙◌, ◌++◌, [], refl, sym, ap, subst, All}
use Rattle.update_check.specs.Signed.{IsChecked}
use Rattle.sync_session.specs.Pending.{PendingData}
use Rattle.session_rules.specs.declared.end.End.TheVariants.{Store}
use Rattle.sync_session.specs.Kept.{Kept, turn_of, updates_in, with_refusal}
use Rattle.sync_session.proofs.Standing.{stands_end}
use Rattle.sync_session.proofs.TurnTaking.{answers_stands, answers_turn, closed_after, fault_at, refused_stays, seeks_committed, turn_refused, waits_within}
use Rattle.std.proofs.Common.{length, map, List, ℕ, Ok}
use Rattle.update_codec.specs.Parts.{entry_of}
use Rattle.session_rules.specs.declared.end.End.TheVariants.{Peer, Full}
use Rattle.session_rules.specs.State.{OutData}
use Rattle.sync_session.specs.Kept.{GrowsBy}
use Rattle.sync_session.specs.Turns.{SettlesTo}
use Rattle.sync_session.proofs.Gains.{grows_commit}
use Rattle.sync_session.proofs.Quiet.{closed_not_store, settles_not_store, store_free}
use Rattle.sync_session.proofs.Sending.{closing_sends, none_within}
use Rattle.sync_session.proofs.session.Session.take_turn.Goals as goal

pub returns-in-Some-clause-stands : goal.returns-in-Some-clause-stands
returns-in-Some-clause-stands g c = stands_end _ c.args.self.now c.end.new.self c.end.ensures.state _ _ c.requires.stands

pub commit-requires : goal.commit-requires
commit-requires g c = rw c.in_ok-batch.ensures.batch (subst (λ (k : Kept). All (IsChecked (g.H.Holder.rule c.args.holder.now)) (updates_in k)) (sym c.self.view_is) c.requires.stands.under)

pub answer_turn-requires-clause-within : goal.answer_turn-requires-clause-within
answer_turn-requires-clause-within g c = waits_within _ _ _ c.self.inside.pending.waiting c.self.inside.pending.gathered _ _ c.in-Ok.ensures.commits c.in_ok-batch.ensures.batch c.in_ok-batch.ensures.within

pub answer_turn-requires-clause-closed : goal.answer_turn-requires-clause-closed
answer_turn-requires-clause-closed g c = closed_after _ _ _ _ _ c.in-Ok.ensures.commits c.requires.held.closed

pub returns-in-Ok-clause-takes : goal.returns-in-Ok-clause-takes
returns-in-Ok-clause-takes g c =
    answers_turn (g.H.Holder.limits c.args.holder.now) c.args.self.now _ c.answer_turn.new.self (g.H.Holder.members c.args.holder.now) c.in_ok-batch.batch.items (g.H.Holder.members c.commit.new.self) c.in-Ok.committed _ c.args.turn.now c.answer_turn.result
    (ap (λ (k : Kept). record k { pending = c.take.new.self }) c.self.view_is ∙ ap (λ (p : PendingData). record c.args.self.now { pending = p }) c.in_ok-batch.ensures.state)
    refl (fault_at _ c.args.self.now c.turn_fault-fault.result _ c.args.turn.now (g.H.Holder.members c.args.holder.now) c.self.view_is refl c.turn_fault-fault.ensures c.in_default.is)
    c.requires.stands.below
    (subst (λ (k : Kept). c.in_ok-batch.batch.items ≡ k.pending.waiting ++ k.pending.gathered) c.self.view_is c.in_ok-batch.ensures.batch) c.in-Ok.ensures.commits c.answer_turn.ensures.settles

pub returns-in-Ok-clause-stands : goal.returns-in-Ok-clause-stands
returns-in-Ok-clause-stands g c =
    answers_stands (g.H.Holder.limits c.args.holder.now) (g.H.Holder.rule c.args.holder.now) c.args.self.now _ c.answer_turn.new.self (g.H.Holder.members c.args.holder.now) c.in_ok-batch.batch.items (g.H.Holder.members c.commit.new.self) c.in-Ok.committed _ c.answer_turn.result
    (ap (λ (k : Kept). record k { pending = c.take.new.self }) c.self.view_is ∙ ap (λ (p : PendingData). record c.args.self.now { pending = p }) c.in_ok-batch.ensures.state)
    (subst (λ (k : Kept). c.in_ok-batch.batch.items ≡ k.pending.waiting ++ k.pending.gathered) c.self.view_is c.in_ok-batch.ensures.batch) c.in-Ok.ensures.commits c.requires.stands c.answer_turn.ensures.settles c.answer_turn.ensures.seeks

pub returns-in-Err-DiskFault-clause-takes : goal.returns-in-Err-DiskFault-clause-takes
returns-in-Err-DiskFault-clause-takes g c =
    turn_refused (g.H.Holder.limits c.args.holder.now) c.args.self.now c.refuse-in-Err-DiskFault.new.self (g.H.Holder.members c.args.holder.now) (g.H.Holder.members c.commit.new.self) (turn_of c.args.turn.now) c.refuse-in-Err-DiskFault.result
    (fault_at _ c.args.self.now c.turn_fault-fault.result _ c.args.turn.now (g.H.Holder.members c.args.holder.now) c.self.view_is refl c.turn_fault-fault.ensures c.in_default.is)
    (refused_stays _ _ _ c.in-Err-DiskFault.field-0 _ _ _ c.in-Err-DiskFault.ensures.commits)
    (c.refuse-in-Err-DiskFault.ensures.state ∙ ap (with_refusal Store) (ap (λ (k : Kept). record k { pending = c.take.new.self }) c.self.view_is))
    c.refuse-in-Err-DiskFault.ensures.out

pub returns-in-Some-clause-store : goal.returns-in-Some-clause-store
returns-in-Some-clause-store g c = λ is. absurd (closed_not_store (Peer _) c.end.result (λ h. cc) c.end.ensures.out is)

pub returns-in-Ok-clause-grows : goal.returns-in-Ok-clause-grows
returns-in-Ok-clause-grows g c =
    subst (λ (batch : List (List ℕ)). GrowsBy batch (g.H.Holder.members c.args.holder.now) (g.H.Holder.members c.commit.new.self))
    (subst (λ (k : Kept). c.in_ok-batch.batch.items ≡ k.pending.waiting ++ k.pending.gathered) c.self.view_is c.in_ok-batch.ensures.batch)
    (grows_commit (g.H.Holder.limits c.args.holder.now) (g.H.Holder.members c.args.holder.now) c.in_ok-batch.batch.items (Ok c.in-Ok.committed) (g.H.Counted.faults c.args.holder.now) (g.H.Counted.faults c.commit.new.self) (g.H.Holder.members c.commit.new.self) c.in-Ok.ensures.commits)

pub returns-in-Ok-clause-store : goal.returns-in-Ok-clause-store
returns-in-Ok-clause-store g c =
    store_free c.answer_turn.result (λ out. SettlesTo (map entry_of (g.H.Holder.members c.commit.new.self)) (length c.in-Ok.committed.added) c.in-Ok.committed.waiting _ _ c.answer_turn.new.self out) _
    (λ out s. settles_not_store _ _ _ _ _ _ out s) c.answer_turn.ensures.settles

pub returns-in-Err-Full-clause-store : goal.returns-in-Err-Full-clause-store
returns-in-Err-Full-clause-store g c = λ is. absurd (closed_not_store Full c.refuse.result (λ h. cc) c.refuse.ensures.out is)

pub returns-in-Err-Full-clause-whole : goal.returns-in-Err-Full-clause-whole
returns-in-Err-Full-clause-whole g c = λ held room disk. absurd (room (ap (λ (o : OutData). o.end) (c.refuse.ensures.out [])))

pub returns-in-Err-DiskFault-clause-whole : goal.returns-in-Err-DiskFault-clause-whole
returns-in-Err-DiskFault-clause-whole g c = λ held room disk. absurd (disk (ap (λ (o : OutData). o.end) (c.refuse-in-Err-DiskFault.ensures.out [])))

pub returns-in-Some-clause-within : goal.returns-in-Some-clause-within
returns-in-Some-clause-within g c = none_within (g.H.Holder.members c.args.holder.now) c.end.result.send (closing_sends (Peer _) c.end.result c.end.ensures.out)

pub returns-in-Err-Full-clause-within : goal.returns-in-Err-Full-clause-within
returns-in-Err-Full-clause-within g c = none_within (g.H.Holder.members c.commit.new.self) c.refuse.result.send (closing_sends Full c.refuse.result c.refuse.ensures.out)

pub returns-in-Err-DiskFault-clause-within : goal.returns-in-Err-DiskFault-clause-within
returns-in-Err-DiskFault-clause-within g c =
    none_within (g.H.Holder.members c.commit.new.self) c.refuse-in-Err-DiskFault.result.send (closing_sends Store c.refuse-in-Err-DiskFault.result c.refuse-in-Err-DiskFault.ensures.out)

pub answer_turn-requires-clause-seeks : goal.answer_turn-requires-clause-seeks
answer_turn-requires-clause-seeks g c =
    seeks_committed (g.H.Holder.limits c.args.holder.now) c.args.self.now _ (g.H.Holder.members c.args.holder.now) c.in_ok-batch.batch.items (g.H.Holder.members c.commit.new.self) c.in-Ok.committed
    (ap (λ (k : Kept). record k { pending = c.take.new.self }) c.self.view_is ∙ ap (λ (p : PendingData). record c.args.self.now { pending = p }) c.in_ok-batch.ensures.state)
    (subst (λ (k : Kept). c.in_ok-batch.batch.items ≡ k.pending.waiting ++ k.pending.gathered) c.self.view_is c.in_ok-batch.ensures.batch) c.in-Ok.ensures.commits
    (c.requires.stands.seeks c.requires.running.running)
