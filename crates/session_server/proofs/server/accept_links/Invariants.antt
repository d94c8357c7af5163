use Rattle.std.proofs.Common.{◌≡◌, ◌-◌, ◌≤◌, ◌<◌, List, [], map, true, false, length}
use Rattle.std.specs.Prelude.{All}
use Rattle.session_server.specs.Accepting.{GoesOn, IsDue}
use Rattle.session_server.specs.Serving.{Begun, Ran}
use Rattle.session_server.proofs.server.accept_links.Given as goal

abbrev pub invariant-loop-goes_on : goal.invariant-loop-goes_on
invariant-loop-goes_on g l = record {
  due : All (λ h. IsDue l.common.rule.now l.common.peers.now l.pass h.promise) l.children.items;
  out : length l.children.items ≤ (g.N.Net.state l.net).out;
  accepted : List Begun;
  ended : List Ran;
  goes : GoesOn l.common.rule.now l.common.peers.now
      (record { net = g.N.Net.state l.initial.net; faults = g.N.Counted.faults l.initial.net; running = []; pass = l.fn.pass; tally = l.initial.tally })
      (record { net = g.N.Net.state l.net; faults = g.N.Counted.faults l.net; running = map (λ h. h.promise.begun) l.children.items; pass = l.pass; tally = l.tally }) accepted ended;
  tries : l.goes_on ≡ true → length accepted ≡ l.tries;
  missed : l.tally.net_failed ≡ true → length accepted < l.tries;
  within : l.tries ≤ l.sessions;
  still : l.goes_on ≡ true → l.tally.net_failed ≡ false;
  stops : l.tally.memory ≡ false → l.tally.net_failed ≡ false → l.goes_on ≡ true;
}

abbrev pub decreases-loop-goes_on : goal.decreases-loop-goes_on
decreases-loop-goes_on g l = l.sessions - l.tries
