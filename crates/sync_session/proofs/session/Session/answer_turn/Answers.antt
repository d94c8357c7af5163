use Rattle.std.proofs.Common.{◌∙◌, List, sym, ap, subst, map, take, length, ◌&&◌}
use Rattle.std.proofs.lemmas.Result.{IfOk-weaker}
use Rattle.update_codec.specs.Parts.{entry_of}
use Rattle.session_rules.specs.Steps.{is_first, IsTurn}
use Rattle.update_model.specs.Entry.{Entry}
use Rattle.sync_session.specs.Kept.{Kept, late_fault_at, turn_of, whole, with_commit, LeavesSought, Seeks}
use Rattle.sync_frames.specs.Payload.{TurnData}
use Rattle.sync_session.specs.Turns.{RepliesTo, SettlesTo}
use Rattle.sync_session.proofs.Settling.{seeking_ended, settled_fault, settled_done, settled_reply}
use Rattle.session_rules.specs.declared.end.End.TheVariants.{Done, Peer}
use Rattle.sync_session.proofs.Sending.{closing_sends, none_within}
use Rattle.sync_session.proofs.session.Session.answer_turn.Goals as goal

pub returns-in-Some-clause-settles : goal.returns-in-Some-clause-settles
returns-in-Some-clause-settles g c =
    settled_fault (map entry_of (g.H.Holder.members c.args.holder.now)) (length c.args.committed.added) c.args.committed.waiting (turn_of c.args.turn.now) (turn_of c.in_ok-own.own) c.args.self.now c.own_turn.new.self c.end.new.self c.end.result c.is_first-first.result c.in-Some.fault
    (record {
      kept = c.in_ok-own.ensures.state ∙ ap (λ (x : Kept). record x { sought = c.own_turn.new.self.sought }) (c.in_ok-keep.ensures ∙ ap (λ (t : TurnData). with_commit (length c.args.committed.added) c.args.committed.waiting t.have c.args.self.now) c.turn.view_is);
      is_turn = subst (λ (x : Kept). (start : List Entry) → IsTurn (whole start x) (map entry_of (g.H.Holder.members c.args.holder.now)) (map entry_of x.pending.waiting) (turn_of c.in_ok-own.own)) (sym c.in_ok-own.ensures.state) c.in_ok-own.ensures.turn;
      first_is = c.is_first-first.ensures ∙ ap (λ (k : Kept). is_first k.state.role k.state.reading) c.self.view_is;
      fault_is = sym c.in-Some.is ∙ c.late_fault-fault.ensures ∙ ap (λ (k : Kept). late_fault_at c.is_first-first.result (take k.below (map entry_of (g.H.Holder.members c.args.holder.now))) k.state.peer_asked (turn_of c.args.turn.now) (turn_of c.in_ok-own.own)) c.self-2.view_is;
    })
    c.end.ensures.state c.end.ensures.out

pub returns-then-both-clause-settles : goal.returns-then-both-clause-settles
returns-then-both-clause-settles g c =
    settled_done (map entry_of (g.H.Holder.members c.args.holder.now)) (length c.args.committed.added) c.args.committed.waiting (turn_of c.args.turn.now) (turn_of c.in_ok-own.own) c.args.self.now c.own_turn.new.self c.end-then-both.new.self c.end-then-both.result c.is_first-first.result c.have_both-both.result
    (record {
      kept = c.in_ok-own.ensures.state ∙ ap (λ (x : Kept). record x { sought = c.own_turn.new.self.sought }) (c.in_ok-keep.ensures ∙ ap (λ (t : TurnData). with_commit (length c.args.committed.added) c.args.committed.waiting t.have c.args.self.now) c.turn.view_is);
      is_turn = subst (λ (x : Kept). (start : List Entry) → IsTurn (whole start x) (map entry_of (g.H.Holder.members c.args.holder.now)) (map entry_of x.pending.waiting) (turn_of c.in_ok-own.own)) (sym c.in_ok-own.ensures.state) c.in_ok-own.ensures.turn;
      first_is = c.is_first-first.ensures ∙ ap (λ (k : Kept). is_first k.state.role k.state.reading) c.self.view_is;
      fault_is = sym c.in_default.is ∙ c.late_fault-fault.ensures ∙ ap (λ (k : Kept). late_fault_at c.is_first-first.result (take k.below (map entry_of (g.H.Holder.members c.args.holder.now))) k.state.peer_asked (turn_of c.args.turn.now) (turn_of c.in_ok-own.own)) c.self-2.view_is;
    })
    (c.have_both-both.ensures ∙ ap (λ (k : Kept). k.state.sent_have && c.turn.inside.have) c.self.view_is ∙ ap (λ (t : TurnData). c.args.self.now.state.sent_have && t.have) c.turn.view_is) c.if-both.true c.end-then-both.ensures.state c.end-then-both.ensures.out

pub returns-clause-settles : goal.returns-clause-settles
returns-clause-settles g c =
    IfOk-weaker c.reply.result (λ out. RepliesTo (map entry_of (g.H.Holder.members c.args.holder.now)) c.is_first-first.result (turn_of c.args.turn.now) (turn_of c.in_ok-own.own) c.own_turn.new.self c.reply.new.self out)
    (λ out. SettlesTo (map entry_of (g.H.Holder.members c.args.holder.now)) (length c.args.committed.added) c.args.committed.waiting (turn_of c.args.turn.now) c.args.self.now c.reply.new.self out)
    (λ out replies. settled_reply (map entry_of (g.H.Holder.members c.args.holder.now)) (length c.args.committed.added) c.args.committed.waiting (turn_of c.args.turn.now) (turn_of c.in_ok-own.own) c.args.self.now c.own_turn.new.self c.reply.new.self out c.is_first-first.result c.have_both-both.result
    (record {
      kept = c.in_ok-own.ensures.state ∙ ap (λ (x : Kept). record x { sought = c.own_turn.new.self.sought }) (c.in_ok-keep.ensures ∙ ap (λ (t : TurnData). with_commit (length c.args.committed.added) c.args.committed.waiting t.have c.args.self.now) c.turn.view_is);
      is_turn = subst (λ (x : Kept). (start : List Entry) → IsTurn (whole start x) (map entry_of (g.H.Holder.members c.args.holder.now)) (map entry_of x.pending.waiting) (turn_of c.in_ok-own.own)) (sym c.in_ok-own.ensures.state) c.in_ok-own.ensures.turn;
      first_is = c.is_first-first.ensures ∙ ap (λ (k : Kept). is_first k.state.role k.state.reading) c.self.view_is;
      fault_is = sym c.in_default.is ∙ c.late_fault-fault.ensures ∙ ap (λ (k : Kept). late_fault_at c.is_first-first.result (take k.below (map entry_of (g.H.Holder.members c.args.holder.now))) k.state.peer_asked (turn_of c.args.turn.now) (turn_of c.in_ok-own.own)) c.self-2.view_is;
    })
    (c.have_both-both.ensures ∙ ap (λ (k : Kept). k.state.sent_have && c.turn.inside.have) c.self.view_is ∙ ap (λ (t : TurnData). c.args.self.now.state.sent_have && t.have) c.turn.view_is) c.if-both.false replies)
    c.reply.ensures.replies

pub returns-in-Some-clause-within : goal.returns-in-Some-clause-within
returns-in-Some-clause-within g c = none_within (g.H.Holder.members c.args.holder.now) c.end.result.send (closing_sends (Peer _) c.end.result c.end.ensures.out)

pub returns-then-both-clause-within : goal.returns-then-both-clause-within
returns-then-both-clause-within g c = none_within (g.H.Holder.members c.args.holder.now) c.end-then-both.result.send (closing_sends Done c.end-then-both.result c.end-then-both.ensures.out)

pub own_turn-requires-clause-settled : goal.own_turn-requires-clause-settled
own_turn-requires-clause-settled g c = ap (λ (x : Kept). x.pending.gathered) c.in_ok-keep.ensures

pub own_turn-requires-clause-seeks : goal.own_turn-requires-clause-seeks
own_turn-requires-clause-seeks g c = subst (Seeks (map entry_of (g.H.Holder.members c.args.holder.now))) (sym c.in_ok-keep.ensures) c.requires.seeks

pub reply-requires-clause-left : goal.reply-requires-clause-left
reply-requires-clause-left g c =
    subst (λ (x : Kept). LeavesSought (map entry_of (g.H.Holder.members c.args.holder.now)) (turn_of c.in_ok-own.own) x c.own_turn.new.self.sought) (sym c.in_ok-own.ensures.state) c.in_ok-own.ensures.left

pub reply-requires-clause-settled : goal.reply-requires-clause-settled
reply-requires-clause-settled g c = ap (λ (x : Kept). x.pending.gathered) (c.in_ok-own.ensures.state ∙ ap (λ (x : Kept). record x { sought = c.own_turn.new.self.sought }) c.in_ok-keep.ensures)

pub returns-in-Some-clause-seeks : goal.returns-in-Some-clause-seeks
returns-in-Some-clause-seeks g c = seeking_ended _ c.own_turn.new.self c.end.new.self (map entry_of (g.H.Holder.members c.args.holder.now)) c.end.ensures.state

pub returns-then-both-clause-seeks : goal.returns-then-both-clause-seeks
returns-then-both-clause-seeks g c = seeking_ended Done c.own_turn.new.self c.end-then-both.new.self (map entry_of (g.H.Holder.members c.args.holder.now)) c.end-then-both.ensures.state
