-- Where an end ends by a frame, what it hands out says how.
use Rattle.std.proofs.Common.{◌≡◌, ℕ, Bool, true, false, ◌&&◌, Option, Some, None, Result, Ok, Err, IfOk, List, ◌++◌, map, refl, ap, sym, subst, ◌∙◌}
use Rattle.std.specs.Prelude.{if◌then◌else◌, slice_set}
use Rattle.bec_bytes.specs.Causes.{Rose}
use Rattle.replica.specs.Holding.{KeepsOn}
use Rattle.replica.specs.Replicas.{ReplicaState}
use Rattle.session_rules.specs.Commit.{Committed, Added, TooMuch, DiskFault}
use Rattle.session_rules.specs.declared.end.End.{End}
use Rattle.session_rules.specs.declared.end.End.TheVariants.{Done, Peer, Full, Store}
use Rattle.session_rules.specs.declared.peer_fault.PeerFault.{PeerFault}
use Rattle.session_rules.specs.declared.peer_fault.PeerFault.TheVariants.{BadFrame, Version}
use Rattle.session_rules.specs.declared.role.Role.{Role}
use Rattle.session_rules.specs.declared.role.Role.TheVariants.{Initiator, Responder}
use Rattle.session_rules.specs.State.{HelloData, TurnData, FrameData, Hello, OtherVersion, Item, BadItem, Turn, NoFrame, SessionData, OutData}
use Rattle.session_rules.specs.Steps.{Concludes, Ends, Gathers, Greets, Judges, Replies, Settles, Steps, StepsBy, Takes, Unless, bad_item_fault, committed, gathers, hello_fault, is_first, item_fault, late_fault, turn_fault}
use Rattle.sync_session.specs.Kept as kept
use Rattle.sync_session.specs.Kept.{Kept, BelongsTo, StepsTo, frame_of, out_of, seen}
use Rattle.sync_session.specs.Starts.{RemembersBy}
use Rattle.sync_session.specs.declared.checked_frame.CheckedFrame.{CheckedFrame}
use Rattle.sync_session.specs.declared.out.Out.{Out}
use Rattle.update_codec.specs.Parts.{entry_of}
use Rattle.update_model.specs.declared.update_id.UpdateId.{UpdateId}
use Rattle.update_model.specs.Batch.{Limits, store_limits}
use Rattle.update_model.specs.Entry.{Entry}
use Rattle.update_model.specs.Graph.{is_within}
use Rattle.world_rules.specs.Happens.{RemembersOf, TakesOne, is_done}
use Rattle.world_rules.specs.Worlds.{SiteData, held_by}

abbrev ended_of : SessionData → Option End
ended_of s = s.ended

abbrev end_of : OutData → Option End
end_of out = out.end

module _ (s : SessionData) (before : List Entry) (next : SessionData) (out : OutData) (after : List Entry) where
  by_end : (ending : End) → Ends s before ending next out after → next.ended ≡ out.end
  by_end ending e = ap ended_of e.0 ∙ sym (ap end_of e.1)

  unless : (fault : Option PeerFault) (goes_on : Type 0) → (goes_on → next.ended ≡ out.end) → Unless fault s before next out after goes_on → next.ended ≡ out.end
  unless (Some fault) goes_on f h = by_end (Peer fault) h
  unless None goes_on f h = f h

  by_greeting : (role : Role) (hello : HelloData) → s.ended ≡ None → Greets role s before hello next out after → next.ended ≡ out.end
  by_greeting Initiator hello runs h = ap ended_of h.0 ∙ runs ∙ sym (ap end_of h.1)
  by_greeting Responder hello runs h = ap ended_of h.4.0 ∙ runs ∙ sym (ap end_of h.4.1)

  by_gathering : (fits : Bool) (e : Entry) → s.ended ≡ None → Gathers fits s before e next out after → next.ended ≡ out.end
  by_gathering true e runs h = ap ended_of h.0 ∙ runs ∙ sym (ap end_of h.1)
  by_gathering false e runs h = by_end Full h

  by_reply : (done first : Bool) (t : SessionData) (turn own : TurnData) → Replies done first t turn own next out → next.ended ≡ out.end
  by_reply true first t turn own h = ap ended_of h.0 ∙ sym (ap end_of h.1)
  by_reply false first t turn own h = ap ended_of h.7 ∙ sym (ap end_of h.6)

  by_judging : (fault : Option PeerFault) (t : SessionData) (turn own : TurnData) → Judges fault s t turn own next out → next.ended ≡ out.end
  by_judging (Some fault) t turn own h = ap ended_of h.0 ∙ sym (ap end_of h.1)
  by_judging None t turn own h = by_reply (s.sent_have && turn.have) (is_first s.role s.reading) t turn own h

  by_commit : (answer : Committed) (turn : TurnData) → Concludes answer s turn after next out → next.ended ≡ out.end
  by_commit (Added added waiting) turn h = by_judging (late_fault s turn h.0) (committed s turn added waiting) turn h.0 h.2
  by_commit TooMuch turn h = ap ended_of h.0 ∙ sym (ap end_of h.1)
  by_commit DiskFault turn h = ap ended_of h.0 ∙ sym (ap end_of h.1)

  by_frame : (limits : Limits) (frame : FrameData) → s.ended ≡ None → Takes limits s before frame next out after → next.ended ≡ out.end
  by_frame limits (Hello hello) runs h = unless (hello_fault s hello) (Greets s.role s before hello next out after) (by_greeting s.role hello runs) h
  by_frame limits OtherVersion runs h = by_end (Peer Version) h
  by_frame limits (Item e) runs h =
      unless (item_fault s e) (Gathers (is_within (s.waiting ++ gathers s e)) s before e next out after) (by_gathering (is_within (s.waiting ++ gathers s e)) e runs) h
  by_frame limits (BadItem why) runs h = by_end (Peer (bad_item_fault s why)) h
  by_frame limits (Turn turn) runs h = unless (turn_fault s turn) (Settles limits s before turn next out after) (λ x. by_commit x.0 turn x.2) h
  by_frame limits (NoFrame place) runs h = by_end (Peer (BadFrame place)) h

  by_step : (limits : Limits) (frame : FrameData) (ended : Option End) → s.ended ≡ ended → ended ≡ None → StepsBy ended limits s before frame next out after → next.ended ≡ out.end
  by_step limits frame (Some ending) is none h = absurd cc
  by_step limits frame None is none h = by_frame limits frame is h

-- An end that had not ended has ended as is handed out.
pub ended_as_told : (limits : Limits) (s : SessionData) (before : List Entry) (frame : FrameData) (next : SessionData) (out : OutData) (after : List Entry) → s.ended ≡ None
    → Steps limits s before frame next out after → next.ended ≡ out.end
ended_as_told limits s before frame next out after runs h = by_step s before next out after limits frame s.ended refl runs h

-- The same of the code's session, whose memory has not run out.
pub told : {E : Type 0} (result : Result Out E) (limits : Limits) (k next : Kept) (before after : List (List ℕ)) (frame : CheckedFrame) → k.failed ≡ false
    → IfOk result (λ out. StepsTo limits k before frame next out after) → k.state.ended ≡ None → IfOk result (λ out. next.state.ended ≡ out.end)
told (Ok out) limits k next before after frame fine s runs =
    ended_as_told limits (seen before k) (map entry_of before) (frame_of frame) (seen after next) (out_of (map entry_of after) out) (map entry_of after) runs
    (subst (λ (b : Bool). kept.StepsBy b limits k before frame next out after) fine s.0)
told (Err error) limits k next before after frame fine s runs = tt

-- What a session does with a frame over a replica's store is a step of the rules, and it ends by the store only where its disk counted a fault.
pub takes_one : {E : Type 0} (result : Result Out E) (old new : ReplicaState) (k next : Kept) (frame : CheckedFrame) → k.failed ≡ false
    → IfOk result (λ out. StepsTo store_limits k old.history.members frame next out new.history.members) → KeepsOn old new → IfOk result (λ out. out.end ≡ Some Store → Rose old.log.faults new.log.faults)
    → IfOk result (λ out. TakesOne old (seen old.history.members k) (frame_of frame) (seen new.history.members next) (out_of (map entry_of new.history.members) out) new)
takes_one (Ok out) old new k next frame fine steps keeps store = record {
  step = subst (λ (b : Bool). kept.StepsBy b store_limits k old.history.members frame next out new.history.members) fine steps.0;
  keeps = keeps;
  store = store;
}
takes_one (Err error) old new k next frame fine steps keeps store = tt

-- ---- what is remembered

-- Where the end is done, its replica remembers what the rules say.
pub remembers_done : (site : SiteData) (other : ℕ) (k : Kept) (ids : List UpdateId) (remembered : List (List UpdateId)) → k.state.ended ≡ Some Done → k.failed ≡ false
    → BelongsTo store_limits site.store.history.schema.rule k (held_by site) → RemembersBy k.failed k ids → remembered ≡ slice_set site.remembered other ids
    → RemembersOf site other (seen (held_by site) k) remembered
remembers_done site other k ids remembered done fine belongs remembers is = record {
  ids = ids;
  remembers = (subst (λ (b : Bool). RemembersBy b k ids) fine remembers) site.store.history.schema.rule (held_by site) (belongs fine).stands;
  is = is ∙ ap (λ (e : Option End). if is_done e then slice_set site.remembered other ids else site.remembered) (sym done);
}
