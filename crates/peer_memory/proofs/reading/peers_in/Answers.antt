use Rattle.std.proofs.Common.{◌≢◌, ◌+◌, List, ℕ, All, length, subst, sym, ap, ◌∙◌, arith}
use Rattle.std.proofs.lemmas.Bool.{eqb-false}
use Rattle.std.proofs.lemmas.List.{length_push}
use Rattle.std.proofs.lemmas.List.Elements.{All-push}
use Rattle.std.specs.List.{AllPairs, list_any}
use Rattle.peer_memory.specs.declared.peer.Peer.{Peer}
use Rattle.peer_memory.specs.Peers.{IsPeer, is_named}
use Rattle.peer_memory.proofs.Refusing.{apart_push, handed, no_bytes_behind, no_next, no_twice, one_more}
use Rattle.peer_memory.proofs.reading.peers_in.Goals as goal

pub returns-in_err-peer-clause-none : goal.returns-in_err-peer-clause-none
returns-in_err-peer-clause-none c refused others spells =
    no_next c.args.bytes.now c.loop.rest.now c.in_ok-count.count c.loop.peers.items others c.in_ok-count.ensures.low c.loop.invariant.parts c.loop.invariant.each spells
    (let long = c.loop.invariant.long in let more = c.loop-test.true in omega arith) (c.in_err-peer.ensures.none (handed c.from_residual-in_err-peer.result _ _ c.from_residual-in_err-peer.ensures.1 refused))

pub returns-then-has_name-clause-none : goal.returns-then-has_name-clause-none
returns-then-has_name-clause-none c refused others spells =
    let twice = ap (λ (n : List ℕ). list_any (is_named n) c.loop.peers.items) (sym c.as_slice-in-loop.ensures) ∙ ap (λ (l : List Peer). list_any (is_named c.as_slice-in-loop.result.now) l) (sym c.as_slice.ensures.value)
    ∙ sym c.has_name.ensures ∙ c.if-has_name.true in
    no_twice c.args.bytes.now c.loop.rest.now c.in_ok-count.count c.loop.peers.items others c.in_ok-count.ensures.low c.loop.invariant.parts c.loop.invariant.each spells
    c.in_ok-peer.peer c.in_ok-peer.after.now (let long = c.loop.invariant.long in let more = c.loop-test.true in omega arith) c.in_ok-peer.ensures.peer c.in_ok-peer.ensures.parts twice

pub loop-preserved : goal.loop-preserved
loop-preserved c =
    let last = c.in_ok-push.ensures.items in
    let new = ap (λ (n : List ℕ). list_any (is_named n) c.loop.peers.items) (sym c.as_slice-in-loop.ensures) ∙ ap (λ (l : List Peer). list_any (is_named c.as_slice-in-loop.result.now) l) (sym c.as_slice.ensures.value)
    ∙ sym c.has_name.ensures ∙ c.if-has_name.false in
    record {
      parts = one_more c.args.bytes.now c.loop.rest.now c.in_ok-peer.after.now c.in_ok-count.count c.loop.peers.items c.push.new.self.items c.in_ok-peer.peer c.loop.invariant.parts c.in_ok-peer.ensures.parts last;
      each = subst (λ (l : List Peer). All IsPeer l) (sym last) (All-push IsPeer c.loop.peers.items c.in_ok-peer.peer c.loop.invariant.each c.in_ok-peer.ensures.peer);
      apart = subst (λ (l : List Peer). AllPairs (λ (a b : Peer). a.name ≢ b.name) l) (sym last) (apart_push c.loop.peers.items c.in_ok-peer.peer c.loop.invariant.apart new);
      long = ap length last ∙ length_push c.loop.peers.items c.in_ok-peer.peer ∙ ap (λ n. n + 1) c.loop.invariant.long;
    }

pub returns-then-not-is_empty-clause-none : goal.returns-then-not-is_empty-clause-none
returns-then-not-is_empty-clause-none c refused others spells =
    let some = eqb-false (length c.loop.rest.now) 0 (sym c.is_empty.ensures ∙ c.if-not-is_empty.true) in
    no_bytes_behind c.args.bytes.now c.loop.rest.now c.in_ok-count.count c.loop.peers.items others c.in_ok-count.ensures.low c.loop.invariant.parts c.loop.invariant.each spells
    (let long = c.loop.invariant.long in let all = c.loop-test.false in omega arith) (omega arith)
