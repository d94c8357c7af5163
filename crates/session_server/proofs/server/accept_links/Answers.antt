use Rattle.std.proofs.Common.{rules, ◌≡◌, ◌++◌, [], map, length, refl, sym, ap, ◌∙◌, arith, length-append, zero-le}
use Rattle.std.proofs.lemmas.List.{length-map}
use Rattle.std.proofs.lemmas.List.Elements.{All-nil, All-same}
use Rattle.session_server.specs.Accepting.{IsDue}
use Rattle.session_server.proofs.Accepting.{goes_nowhere, goes_then, serves_all}
use Rattle.session_server.proofs.server.accept_links.Goals as goal
use Rattle.session_server.proofs.server.accept_links.Goals.{then-loop-goes_on-test+else-tries-sessions, else-loop-goes_on-test}

pub loop-goes_on-init : goal.loop-goes_on-init
loop-goes_on-init g c =
    let none : c.new-children.result.items ≡ [] = search rules in let n : length c.new-children.result.items ≡ 0 = ap length none in
    record {
      due = All-same (λ h. IsDue c.args.common.now.rule.now c.args.common.now.peers.now c.args.pass h.promise) _ _ none (All-nil (λ h. IsDue c.args.common.now.rule.now c.args.common.now.peers.now c.args.pass h.promise));
      out = omega (arith, n);
      accepted = [];
      ended = [];
      goes = goes_nowhere _ _ refl refl refl (omega arith) (ap (map (λ h. h.promise.begun)) none) refl refl (λ none. none) (λ same. refl) (λ was is. absurd (cc (is, was))) (λ was. was);
      tries = λ on. refl;
      missed = λ is. absurd (cc (is));
      within = zero-le;
      still = λ on. refl;
      stops = λ none is. refl;
    }

pub loop-goes_on-preserved : goal.loop-goes_on-preserved
loop-goes_on-preserved g c =
    let inv = c.loop-goes_on.invariant in let did = c.accept_one.ensures in let one = did.accepts in let before = inv.tries c.loop-goes_on-test.true in
    let out = inv.out in let goes = one.goes.out in let n = length-append inv.accepted one.accepted in
    let x = length-map c.loop-goes_on.children.items (λ h. h.promise.begun) in let y = length-map c.accept_one.new.children.items (λ h. h.promise.begun) in
    record {
      due = did.due;
      out = omega (arith, out, goes, x, y);
      accepted = inv.accepted ++ one.accepted;
      ended = inv.ended ++ one.ended;
      goes = goes_then _ _ _ inv.accepted one.accepted inv.ended one.ended inv.goes one.goes;
      tries = λ on. let m = one.one on in omega (arith, m, n, before);
      missed = λ is. let m = ap length (one.none is) in omega (arith, m, n, before);
      within = let h = c.if-tries-sessions.true in omega (arith, h);
      still = one.still;
      stops = one.stops;
    }

pub returns : goal.returns
returns g c =
    let inv = c.loop-goes_on.invariant in let fin = c.end_sessions-pass.ensures in let n = length-append inv.accepted [] in
    let settled = fin.goes c.args.common.now.rule.now c.args.common.now.peers.now inv.due in
    let empty : c.new.result.items ≡ [] = search rules in
    let counted : c.from_vec.result ≡ c.end_sessions-pass.new.tally.served.items = search rules in
    serves_all _ _ _ (inv.accepted ++ []) (inv.ended ++ settled.0) (goes_then _ _ _ inv.accepted [] inv.ended settled.0 inv.goes settled.1) refl refl empty refl
    (λ none not. let on = inv.stops (settled.1.memory none) (sym fin.failed ∙ not) in let a = inv.tries on in let w = inv.within in
    elim c.loop-goes_on-test.branch [ then-loop-goes_on-test+else-tries-sessions w ↦ (let h = w.if-tries-sessions.false in omega (arith, h, a, n)) | else-loop-goes_on-test w ↦ absurd (cc (on, w.loop-goes_on-test.false)) ])
    (λ is. let m = inv.missed (sym fin.failed ∙ is) in let w = inv.within in omega (arith, m, w, n)) c.from_vec.result counted
