-- How serving goes on, from one moment to a later one.
use Rattle.std.specs.Prelude.{◌≡◌, ◌⊎◌, ℕ, ◌+◌, ◌≤◌, Bool, true, false, All, List, [], ◌++◌, length, map, Option}
use mathlib.Core.List.{IsPrefix}
use Rattle.bec_bytes.specs.Causes.{Rose, one_more}
use Rattle.bec_links.specs.Nets.{NetState}
use Rattle.update_model.specs.Rule.{RuleData}
use Rattle.peer_memory.specs.declared.peer.Peer.{Peer}
use Rattle.turn_lock.specs.Numbers.{AreApart}
use Rattle.turn_lock.specs.Seats.{Known, numbers_of}
use Rattle.shared_replica.specs.declared.entry.Entry.{Entry}
use Rattle.session_server.specs.declared.server.Tally.{Tally}
use Rattle.session_server.specs.Serving.{Begun, Ran, IsRun, IsTold, IsWithin, Leaves, begun_of, given_with, numbers_in, served_of}

-- What a session that runs was given: the rule, the peers that are remembered, and how it began.
pub record Given : Type 0 where
  pub rule : RuleData
  pub peers : List Peer
  pub begun : Begun

-- how it began
abbrev pub begun_by : Given → Begun
begun_by g = g.begun

-- what a session is given that begins with this pass over a link of which this is seen
abbrev pub given_to : RuleData → List Peer → Known Entry → Option (List ℕ) → Option (List ℕ) → ℕ → Given
given_to rule peers before left held faults = record { rule = rule; peers = peers; begun = record { before = before; left = left; held = held; faults = faults } }

-- It was given this rule, these peers and a pass of the same lock.
pub record IsDue (rule_is : RuleData) (peers_are : List Peer) (pass : Known Entry) (g : Given) : Type 0 where
  pub rule : g.rule ≡ rule_is
  pub peers : g.peers ≡ peers_are
  pub same_lock : g.begun.before.lock ≡ pass.lock

-- A moment of serving: the net and its faults, the sessions that run, in the order of acceptance, the pass of the thread that accepts, and what the sessions came to so far.
pub record Standing : Type 0 where
  pub net : NetState
  pub faults : ℕ
  pub running : List Begun
  pub pass : Known Entry
  pub tally : Tally

-- A session begins with a pass that has seen at least as much as this one, and with a link that has counted no fault.
pub record IsFresh (pass : Known Entry) (b : Begun) : Type 0 where
  pub seen : IsPrefix pass.seen b.before.seen
  pub clean : b.faults ≡ 0

-- A session was run from a pass of the same lock.
pub record IsEnded (rule : RuleData) (peers : List Peer) (pass : Known Entry) (r : Ran) : Type 0 where
  pub same_lock : r.before.lock ≡ pass.lock
  pub run : IsRun rule peers r

-- What serving did from one moment to a later one, with the sessions whose links were accepted and those that ended, both in the order of acceptance.
pub record GoesOn (rule : RuleData) (peers : List Peer) (now next : Standing) (accepted : List Begun) (ended : List Ran) : Type 0 where
  pub same_lock : next.pass.lock ≡ now.pass.lock
  pub same_number : next.pass.number ≡ now.pass.number
  pub same_acts : next.pass.acts ≡ now.pass.acts
  pub seen : IsPrefix now.pass.seen next.pass.seen
  pub links : Leaves now.net.coming accepted next.net.coming
  pub fresh : All (IsFresh now.pass) accepted
  pub order : now.running ++ accepted ≡ map begun_of ended ++ next.running
  pub runs : All (IsEnded rule peers now.pass) ended
  pub given : next.net.given ≡ given_with now.net.given ended
  pub out : next.net.out + length now.running ≡ now.net.out + length next.running
  pub later : now.faults ≤ next.faults
  pub told : All (IsTold now.faults next.faults) ended
  pub memory : next.tally.memory ≡ false → now.tally.memory ≡ false
  pub counted : next.tally.memory ≡ false → next.tally.served.items ≡ now.tally.served.items ++ map served_of ended
  pub within : next.tally.memory ≡ false → All (IsWithin next.pass) ended
  pub others : next.tally.memory ≡ false → next.pass.others ≡ now.pass.others ++ numbers_in ended
  pub apart : next.tally.memory ≡ false → (ended ≡ []) ⊎ AreApart (numbers_of next.pass)
  pub few : length next.tally.served.items ≤ length now.tally.served.items + length ended
  pub steady : next.tally.net_failed ≡ now.tally.net_failed → next.net.failed ≡ now.net.failed
  pub failed : now.tally.net_failed ≡ false → next.tally.net_failed ≡ true → (next.net.failed ≡ one_more now.net.failed) × Rose now.faults next.faults
  pub stays : now.tally.net_failed ≡ true → next.tally.net_failed ≡ true

-- What accepting one link did. It is to go on exactly where the link was accepted and its session runs or has ended: not where the net failed, nor where memory ran out before.
pub record Accepts (rule : RuleData) (peers : List Peer) (now next : Standing) (goes_on : Bool) : Type 0 where
  pub accepted : List Begun
  pub ended : List Ran
  pub goes : GoesOn rule peers now next accepted ended
  pub one : goes_on ≡ true → length accepted ≡ 1
  pub none : next.tally.net_failed ≡ true → accepted ≡ []
  pub still : goes_on ≡ true → next.tally.net_failed ≡ false
  pub stops : next.tally.memory ≡ false → next.tally.net_failed ≡ false → goes_on ≡ true
