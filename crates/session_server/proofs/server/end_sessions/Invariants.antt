use Rattle.std.proofs.Common.{◌≡◌, ◌+◌, List, [], map, length}
use Rattle.std.specs.Prelude.{All}
use Rattle.update_model.specs.Rule.{RuleData}
use Rattle.peer_memory.specs.declared.peer.Peer.{Peer}
use Rattle.session_server.specs.Accepting.{GoesOn, IsDue}
use Rattle.session_server.specs.Serving.{Ran}
use Rattle.session_server.proofs.server.end_sessions.Given as goal

abbrev pub invariant-loop-child : goal.invariant-loop-child
invariant-loop-child g l = record {
  lock : l.pass.lock ≡ l.fn.pass.lock;
  locks : All (λ h. h.promise.begun.before.lock ≡ l.shared.lock) l.children.items;
  out : (g.N.Net.state l.net).out + length l.initial.children.items ≡ (g.N.Net.state l.initial.net).out + length l.children.items;
  goes : (rule : RuleData) (peers : List Peer) → All (λ h. IsDue rule peers l.fn.pass h.promise) l.initial.children.items
      → All (λ h. IsDue rule peers l.fn.pass h.promise) l.children.items × (ended : List Ran) × GoesOn rule peers
      (record { net = g.N.Net.state l.initial.net; faults = g.N.Counted.faults l.initial.net; running = map (λ h. h.promise.begun) l.initial.children.items; pass = l.fn.pass; tally = l.initial.tally })
      (record { net = g.N.Net.state l.net; faults = g.N.Counted.faults l.net; running = map (λ h. h.promise.begun) l.children.items; pass = l.pass; tally = l.tally }) [] ended;
  failed : l.tally.net_failed ≡ l.initial.tally.net_failed;
}

abbrev pub decreases-loop-child : goal.decreases-loop-child
decreases-loop-child g l = length l.children.items
