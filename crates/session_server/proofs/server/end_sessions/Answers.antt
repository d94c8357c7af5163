use Rattle.std.proofs.Common.{rules, ◌≡◌, ◌+◌, ◌∷◌, [], ◌++◌, map, length, refl, sym, ap, ◌∙◌, arith}
use Rattle.std.proofs.lemmas.List.Elements.{All-rest, All-head, All-same}
use Rattle.bec_links.specs.Nets.{NetState}
use Rattle.session_server.specs.Accepting.{IsDue}
use Rattle.session_server.specs.Serving.{Ran}
use Rattle.session_server.proofs.Accepting.{goes_end, goes_nowhere, goes_then, goes_to, run_due}
use Rattle.session_server.proofs.server.end_sessions.Goals as goal

pub loop-child-init : goal.loop-child-init
loop-child-init g c = record {
  lock = refl;
  locks = c.requires.locks;
  out = refl;
  goes = λ rule peers due. (due, [], goes_nowhere _ _ refl refl refl (omega arith) refl refl refl (λ none. none) (λ same. refl) (λ was is. absurd (cc (is, was))) (λ was. was));
  failed = refl;
}

pub loop-child-preserved : goal.loop-child-preserved
loop-child-preserved g c =
    let inv = c.loop-child.invariant in let did = c.end_session-pass.ensures in let child = c.in-Some.child in let rest = c.pop_front.new.self.items in let back = c.join-ended.result in
    let items : c.loop-child.children.items ≡ child ∷ rest = c.in-Some.ensures.items in
    let n : length c.loop-child.children.items ≡ length rest + 1 = ap length items ∙ (omega arith) in
    let out = inv.out in let within = c.requires.out in let less = ap (λ (s : NetState). s.out) did.net in
    let begun = child.promise.begun in
    let r : Ran = record {
      before = begun.before;
      after = back.pass;
      left = begun.left;
      left' = g.N.L.Source.left back.link;
      held = begun.held;
      held' = g.N.L.Sink.held back.link;
      faults = begun.faults;
      faults' = g.N.L.Counted.faults back.link;
      served = back.served;
    } in
    record {
      lock = did.pass.0 ∙ inv.lock;
      locks = All-rest (λ h. h.promise.begun.before.lock ≡ c.args.shared.now.lock) child rest c.loop-child.children.items items inv.locks;
      out = omega (arith, out, within, less, n);
      goes = λ rule peers due.
          let was = inv.goes rule peers due in
          let mine = All-head (λ h. IsDue rule peers c.args.pass h.promise) child rest (All-same (λ h. IsDue rule peers c.args.pass h.promise) (child ∷ rest) c.loop-child.children.items (sym items) was.0) in (
            All-rest (λ h. IsDue rule peers c.args.pass h.promise) child rest c.loop-child.children.items items was.0,
            was.1 ++ r ∷ [],
            goes_then _ _ _ [] [] was.1 (r ∷ []) (goes_to _ _ _ _ _ _ _ _ _ (ap (map (λ h. h.promise.begun)) items) was.2)
                (goes_end _ _ r did.net (omega (arith, out, within, n)) did.later did.faulted refl did.pass did.seen (mine.same_lock ∙ sym inv.lock)
                (run_due c.args.pass child.promise r mine c.join-ended.ensures) did.counted did.few did.failed did.numbers),
          );
      failed = did.failed ∙ inv.failed;
    }

pub returns-clause-goes : goal.returns-clause-goes
returns-clause-goes g c = λ rule peers due.
    let was = c.loop-child.invariant.goes rule peers due in let none : c.loop-child.children.items ≡ [] = search rules in
    (was.1, goes_to _ _ _ _ _ _ _ _ _ (ap (map (λ h. h.promise.begun)) none) was.2)
