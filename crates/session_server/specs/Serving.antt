-- What serving many links comes to.
use Rattle.std.specs.Prelude.{◌≡◌, ℕ, ◌<◌, ◌≤◌, Bool, true, false, All, List, [], ◌∷◌, ◌++◌, length, map, Option, None, if◌then◌else◌}
use mathlib.Core.List.{IsPrefix}
use Rattle.bec_bytes.specs.Causes.{Rose, one_more}
use Rattle.bec_links.specs.Nets.{NetState, IsFirst, with_held}
use Rattle.update_model.specs.Rule.{RuleData}
use Rattle.session_rules.specs.declared.role.Role.TheVariants.{Responder}
use Rattle.peer_memory.specs.declared.peer.Peer.{Peer}
use Rattle.turn_lock.specs.Numbers.{AreApart}
use Rattle.turn_lock.specs.Seats.{Known, numbers_of}
use Rattle.shared_replica.specs.declared.entry.Entry.{Entry}
use Rattle.session_server.specs.declared.served.Served.{Served}
use Rattle.session_server.specs.Sessions.{IsSession}

-- How a session over a link begins: the pass, what the link has left to give, what was put on it before, and how many faults it has counted.
pub record Begun : Type 0 where
  pub before : Known Entry
  pub left : Option (List ℕ)
  pub held : Option (List ℕ)
  pub faults : ℕ

-- A session that was run over a link: the pass, what the link has left to give, what was put on it and how many faults it has counted, before and after; and what the session
-- came to.
pub record Ran : Type 0 where
  pub before : Known Entry
  pub after : Known Entry
  pub left : Option (List ℕ)
  pub left' : Option (List ℕ)
  pub held : Option (List ℕ)
  pub held' : Option (List ℕ)
  pub faults : ℕ
  pub faults' : ℕ
  pub served : Served

-- how it began
abbrev pub begun_of : Ran → Begun
begun_of r = record { before = r.before; left = r.left; held = r.held; faults = r.faults }

-- what it came to
abbrev pub served_of : Ran → Served
served_of r = r.served

-- It is what a session comes to as the Responder, with what is remembered of these peers.
abbrev pub IsRun : RuleData → List Peer → Ran → Type 0
IsRun rule peers r = IsSession rule Responder peers None r.before r.after r.left r.left' r.held r.held' r.faults r.faults' r.served

-- It is the session of a link that was accepted: it began with a pass of the same lock that had seen at least as much, and with a link that had counted no fault.
pub record IsResponse (rule : RuleData) (peers : List Peer) (first : Known Entry) (r : Ran) : Type 0 where
  pub same_lock : r.before.lock ≡ first.lock
  pub seen : IsPrefix first.seen r.before.seen
  pub clean : r.faults ≡ 0
  pub run : IsRun rule peers r

-- The links with which these sessions begin left the net one after the other.
abbrev pub Leaves : Option (List (List ℕ)) → List Begun → Option (List (List ℕ)) → Type 0
Leaves coming [] rest = rest ≡ coming
Leaves coming (b ∷ more) rest = (next : Option (List (List ℕ))) × IsFirst coming b.left b.held next × Leaves next more rest

-- what was put on each link that came back, with that of the links of these sessions, in order
abbrev pub given_with : Option (List (List ℕ)) → List Ran → Option (List (List ℕ))
given_with given [] = given
given_with given (r ∷ more) = given_with (with_held given r.held') more

-- The pass has seen all that the session has.
abbrev pub IsWithin : Known Entry → Ran → Type 0
IsWithin pass r = IsPrefix r.after.seen pass.seen

-- the numbers of the seats with which these sessions ran, and of those that these seats had met
abbrev pub numbers_in : List Ran → List ℕ
numbers_in [] = []
numbers_in (r ∷ more) = numbers_of r.after ++ numbers_in more

-- A link that counted a fault made the net count one.
abbrev pub IsTold : ℕ → ℕ → Ran → Type 0
IsTold faults now r = 0 < r.faults' → Rose faults now

-- A net was served, with so many sessions asked for. The links that it handed out came back in the order in which it did, each after its session was run. The answer counts
-- each session in this order, the last pass has seen what each has, and no two sessions had one seat, unless memory ran out. Fewer sessions than were asked for are counted only where memory ran out or a
-- call of the net failed, which is then one.
pub record Serves (rule : RuleData) (peers : List Peer) (asked : ℕ) (first last : Known Entry) (net net' : NetState) (faults faults' : ℕ) (sessions : List Served) (net_failed memory : Bool) : Type 0 where
  pub same_lock : last.lock ≡ first.lock
  pub same_number : last.number ≡ first.number
  pub same_acts : last.acts ≡ first.acts
  pub seen : IsPrefix first.seen last.seen
  pub ran : List Ran
  pub links : Leaves net.coming (map begun_of ran) net'.coming
  pub responses : All (IsResponse rule peers first) ran
  pub given : net'.given ≡ given_with net.given ran
  pub out : net'.out ≡ net.out
  pub failed : net'.failed ≡ (if net_failed then one_more net.failed else net.failed)
  pub later : faults ≤ faults'
  pub told : All (IsTold faults faults') ran
  pub within : memory ≡ false → All (IsWithin last) ran
  pub apart : memory ≡ false → AreApart (numbers_in ran)
  pub counted : memory ≡ false → sessions ≡ map served_of ran
  pub whole : memory ≡ false → net_failed ≡ false → length sessions ≡ asked
  pub fewer : net_failed ≡ true → (length sessions < asked) × Rose net.failed net'.failed × Rose faults faults'
