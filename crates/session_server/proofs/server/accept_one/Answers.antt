use Rattle.std.proofs.Common.{rules, inr, ◌≡◌, ◌+◌, ◌∷◌, ◌++◌, ◌≤◌, ◌<◌, [], map, None, true, false, length, refl, sym, ap, ◌∙◌, arith}
use Rattle.std.proofs.lemmas.List.{map-append}
use Rattle.std.proofs.lemmas.List.Elements.{All-push, All-same, All-weaker}
use Rattle.bec_bytes.specs.Causes.{Rose}
use Rattle.bec_links.specs.Nets.{NetState}
use Rattle.turn_lock.specs.Seats.{Known}
use Rattle.shared_replica.specs.declared.entry.Entry.{Entry}
use Rattle.session_server.specs.declared.ending.Ending.TheVariants.{Memory}
use Rattle.session_server.specs.Accepting.{Given, IsDue}
use Rattle.session_server.specs.Serving.{Begun, Ran}
use Rattle.session_server.proofs.Accepting.{due_at, due_given, goes_end, goes_here, goes_link, goes_nowhere, goes_to, not_both}
use Rattle.session_server.proofs.Passing.{prefix_self}
use Rattle.session_server.proofs.server.accept_one.Goals as goal

pub returns-then-is_err-clause-accepts : goal.returns-then-is_err-clause-accepts
returns-then-is_err-clause-accepts g c = record {
  accepted = [];
  ended = [];
  goes = goes_nowhere _ _ refl refl refl (omega arith) (ap (map (λ h. h.promise.begun)) c.reserve.ensures.items) refl refl (λ none. not_both true refl none) (λ same. refl) (λ was is. absurd (cc (is, was))) (λ was. was);
  one = λ on. not_both false on refl;
  none = λ is. refl;
  still = λ on. not_both false on refl;
  stops = λ none. not_both true refl none;
}

pub returns-in-Err-clause-accepts : goal.returns-in-Err-clause-accepts
returns-in-Err-clause-accepts g c =
    let e = c.in-Err.ensures in let count = e.count in let later = e.cause.later in record {
      accepted = [];
      ended = [];
      goes = goes_nowhere _ _ (ap (λ (s : NetState). s.coming) e.refused) (ap (λ (s : NetState). s.given) e.refused) (ap (λ (s : NetState). s.out) e.refused) later
          (ap (map (λ h. h.promise.begun)) c.reserve.ensures.items) refl refl (λ none. none) (λ same. absurd (cc (same, c.requires.still)))
          (λ was is. (ap (λ (s : NetState). s.failed) e.refused, e.cause.failed)) (λ was. refl);
      one = λ on. not_both false on refl;
      none = λ is. refl;
      still = λ on. not_both false on refl;
      stops = λ none is. not_both true refl is;
    }

pub returns-in-Ok-start-clause-due : goal.returns-in-Ok-start-clause-due
returns-in-Ok-start-clause-due g c =
    let mine = c.in-Ok-split.mine in let child = c.in-Ok-start.child in let same = c.in-Ok-split.ensures.ok in
    let lock : mine.lock ≡ c.args.pass.lock = ap (λ (p : Known Entry). p.lock) same.0 in
    let theirs : c.in-Ok-split.theirs.lock ≡ mine.lock = ap (λ (p : Known Entry). p.lock) same.1 ∙ sym lock in
    let items : c.push_back_reserved.new.self.items ≡ c.args.children.now.items ++ child ∷ [] = search rules in
    All-same (λ h. IsDue c.args.common.now.rule.now c.args.common.now.peers.now mine h.promise) _ _ items
    (All-push (λ h. IsDue c.args.common.now.rule.now c.args.common.now.peers.now mine h.promise) c.args.children.now.items child
    (All-weaker (λ h. IsDue c.args.common.now.rule.now c.args.common.now.peers.now c.args.pass h.promise) (λ h. IsDue c.args.common.now.rule.now c.args.common.now.peers.now mine h.promise)
    (λ h d. due_at c.args.pass mine h.promise lock d) c.args.children.now.items c.requires.due)
    (due_given mine c.in-Ok-split.theirs _ _ _ child.promise c.in-Ok-start.ensures.there theirs))

pub returns-in-Ok-start-clause-accepts : goal.returns-in-Ok-start-clause-accepts
returns-in-Ok-start-clause-accepts g c =
    let e = c.in-Ok.ensures in let h = e.handed in let child = c.in-Ok-start.child in let link = c.in-Ok.link in let theirs = c.in-Ok-split.theirs in
    let begun : Begun = record { before = theirs; left = g.N.L.Source.left link; held = g.N.L.Sink.held link; faults = g.N.L.Counted.faults link } in
    let items : c.push_back_reserved.new.self.items ≡ c.args.children.now.items ++ child ∷ [] = search rules in
    let is : child.promise.begun ≡ begun = ap (λ (g : Given). g.begun) c.in-Ok-start.ensures.there in
    let running = ap (map (λ h. h.promise.begun)) items ∙ map-append (λ h. h.promise.begun) c.args.children.now.items (child ∷ [])
    ∙ ap (λ (b : Begun). map (λ h. h.promise.begun) c.args.children.now.items ++ b ∷ []) is in
    record {
      accepted = begun ∷ [];
      ended = [];
      goes = goes_link _ _ begun h.first h.given h.out h.failed e.cause.later running c.in-Ok-split.ensures.ok.0 (ap (λ (p : Known Entry). p.seen) c.in-Ok-split.ensures.ok.1) e.clean refl;
      one = λ on. refl;
      none = λ is. absurd (cc (is, c.requires.still));
      still = λ on. c.requires.still;
      stops = λ none is. refl;
    }

pub returns-in-Err-start-clause-accepts : goal.returns-in-Err-start-clause-accepts
returns-in-Err-start-clause-accepts g c =
    let e = c.in-Ok.ensures in let h = e.handed in let link = c.in-Ok.link in let mine = c.in-Ok-split.mine in let theirs = c.in-Ok-split.theirs in let back = c.in-Err-start.ended in
    let all = c.end_sessions-pass.ensures in let did = c.end_session.ensures in let same = c.in-Ok-split.ensures.ok in
    let due = All-same (λ h. IsDue c.args.common.now.rule.now c.args.common.now.peers.now mine h.promise) _ _ c.reserve.ensures.items
    (All-weaker (λ h. IsDue c.args.common.now.rule.now c.args.common.now.peers.now c.args.pass h.promise) (λ h. IsDue c.args.common.now.rule.now c.args.common.now.peers.now mine h.promise)
    (λ h d. due_at c.args.pass mine h.promise (ap (λ (p : Known Entry). p.lock) same.0) d) c.args.children.now.items c.requires.due) in
    let settled = all.goes c.args.common.now.rule.now c.args.common.now.peers.now due in let goes = settled.1 in
    let begun : Begun = record { before = theirs; left = g.N.L.Source.left link; held = g.N.L.Sink.held link; faults = g.N.L.Counted.faults link } in
    let r : Ran = record {
      before = theirs;
      after = back.pass;
      left = g.N.L.Source.left link;
      left' = g.N.L.Source.left back.link;
      held = g.N.L.Sink.held link;
      held' = g.N.L.Sink.held back.link;
      faults = g.N.L.Counted.faults link;
      faults' = g.N.L.Counted.faults back.link;
      served = back.served;
    } in
    let kept = ap length c.reserve.ensures.items in let within = c.requires.out in let away = all.out in let more = h.out in
    let some : 0 < (g.N.Net.state c.end_sessions-pass.new.net).out = omega (arith, kept, within, away, more) in
    let first = goes_link _ _ begun h.first h.given h.out h.failed e.cause.later (ap (λ l. map (λ h. h.promise.begun) l ++ begun ∷ []) c.reserve.ensures.items)
    same.0 (ap (λ (p : Known Entry). p.seen) same.1) e.clean refl in
    let last = goes_end _ _ r did.net some did.later did.faulted refl did.pass did.seen
    (ap (λ (p : Known Entry). p.lock) same.1 ∙ sym (ap (λ (p : Known Entry). p.lock) same.0) ∙ sym goes.same_lock) c.in-Err-start.ensures.here did.counted did.few did.failed did.numbers in
    record {
      accepted = begun ∷ [];
      ended = settled.0 ++ r ∷ [];
      goes = goes_to _ _ _ _ _ _ _ _ _ (sym (ap (map (λ h. h.promise.begun)) all.children)) (goes_here _ _ _ _ begun settled.0 r first goes refl last);
      one = λ on. refl;
      none = λ is. not_both _ is (did.failed ∙ all.failed ∙ c.requires.still);
      still = λ on. did.failed ∙ all.failed ∙ c.requires.still;
      stops = λ none is. refl;
    }

-- the session of a link for which there was no pass never began
pub returns-in-Err-split-clause-accepts : goal.returns-in-Err-split-clause-accepts
returns-in-Err-split-clause-accepts g c =
    let e = c.in-Ok.ensures in let h = e.handed in let link = c.in-Ok.link in let pass = c.in-Err-split.refused.back in
    let all = c.end_sessions-pass-in-Err-split.ensures in let did = c.put_back.ensures in let same = c.in-Err-split.ensures.err in
    let due = All-same (λ h. IsDue c.args.common.now.rule.now c.args.common.now.peers.now pass h.promise) _ _ c.reserve.ensures.items
    (All-weaker (λ h. IsDue c.args.common.now.rule.now c.args.common.now.peers.now c.args.pass h.promise) (λ h. IsDue c.args.common.now.rule.now c.args.common.now.peers.now pass h.promise)
    (λ h d. due_at c.args.pass pass h.promise (ap (λ (p : Known Entry). p.lock) same) d) c.args.children.now.items c.requires.due) in
    let settled = all.goes c.args.common.now.rule.now c.args.common.now.peers.now due in let goes = settled.1 in
    let r : Ran = record {
      before = pass;
      after = pass;
      left = g.N.L.Source.left link;
      left' = g.N.L.Source.left link;
      held = g.N.L.Sink.held link;
      held' = g.N.L.Sink.held link;
      faults = g.N.L.Counted.faults link;
      faults' = g.N.L.Counted.faults link;
      served = record { ending = Memory; gained = 0; turns = 0; peer = None; heads = [] };
    } in
    let begun : Begun = record { before = pass; left = g.N.L.Source.left link; held = g.N.L.Sink.held link; faults = g.N.L.Counted.faults link } in
    let kept = ap length c.reserve.ensures.items in let within = c.requires.out in let away = all.out in let more = h.out in let clean = e.clean in
    let some : 0 < (g.N.Net.state c.end_sessions-pass-in-Err-split.new.net).out = omega (arith, kept, within, away, more) in
    let told : 0 < r.faults' → Rose (g.N.Counted.faults c.end_sessions-pass-in-Err-split.new.net) (g.N.Counted.faults c.put_back.new.self) = λ some. omega (arith, some, clean) in
    let few : length c.end_sessions-pass-in-Err-split.new.tally.served.items ≤ length c.end_sessions-pass-in-Err-split.new.tally.served.items + 1 = omega arith in
    let first = goes_link _ _ begun h.first h.given h.out h.failed e.cause.later (ap (λ l. map (λ h. h.promise.begun) l ++ begun ∷ []) c.reserve.ensures.items)
    same (ap (λ (p : Known Entry). p.seen) same) e.clean refl in
    let never = inr (record { same_lock = refl; seen = prefix_self pass.seen; ending = refl; heads = refl; gained = refl; turns = refl; peer = refl; unread = refl; unsaid = refl }) in
    let last = goes_end _ _ r did.taken some did.later told refl (refl, refl, refl) (prefix_self _) (sym goes.same_lock) never (λ none. not_both true refl none) few refl (λ none. not_both true refl none) in
    record {
      accepted = begun ∷ [];
      ended = settled.0 ++ r ∷ [];
      goes = goes_to _ _ _ _ _ _ _ _ _ (sym (ap (map (λ h. h.promise.begun)) all.children)) (goes_here _ _ _ _ begun settled.0 r first goes refl last);
      one = λ on. not_both false on refl;
      none = λ is. not_both _ is (all.failed ∙ c.requires.still);
      still = λ on. not_both false on refl;
      stops = λ none. not_both true refl none;
    }
