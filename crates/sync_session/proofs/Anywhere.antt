-- An update to a session, whatever list its holder has.
use Rattle.std.proofs.Common.{◌≡◌, ℕ, Bool, true, false, ◌||◌, is_some, List, [], ◌++◌, map, Option, Some, None, ap}
use Rattle.update_check.specs.Signed.{IsChecked}
use Rattle.update_codec.specs.Parts.{entry_of}
use Rattle.update_model.specs.Batch.{Limits}
use Rattle.update_model.specs.Entry.{Entry}
use Rattle.update_model.specs.Graph.{is_within}
use Rattle.update_model.specs.Rule.{RuleData}
use Rattle.session_rules.specs.declared.peer_fault.PeerFault.{PeerFault}
use Rattle.session_rules.specs.Pair.{frames_of}
use Rattle.session_rules.specs.State as state
use Rattle.session_rules.specs.State.{OutData, SessionData}
use Rattle.session_rules.specs.Steps.{Gathers, Takes, Unless, gathers, item_fault, silent}
use Rattle.session_rules.proofs.Courses.{continues_few}
use Rattle.sync_session.specs.Gathering.{BelongsSomewhere, GathersAnywhere, StaysWith}
use Rattle.sync_session.specs.Kept.{IsRunning, Kept, Stands, out_of, seen, whole}
use Rattle.sync_session.specs.declared.checked_frame.CheckedFrame.TheVariants.{Item}
use Rattle.sync_session.specs.declared.out.Out.{Out}
use Rattle.sync_session.proofs.Quiet.{plain_not_store, silent_not_store}
use Rattle.sync_session.proofs.Stepping.{not_over, over_is, running_steps, stays_belonging, take_seen}

-- a session that is not over has read few turns
pub item_runs : (k : Kept) → (k.failed || is_some k.state.ended) ≡ false → BelongsSomewhere k → IsRunning k
item_runs k runs b =
    let fine = not_over k.failed k.state.ended runs in
    record { running = fine.1; turns = continues_few b.0 (seen b.2 k) (map entry_of b.2) b.3 (b.4 fine.0).continues }

-- ---- one that is over

pub over_gathers : (k : Kept) (update : List ℕ) (out : Out) → (k.failed || is_some k.state.ended) ≡ true → ((list : List Entry) → out_of list out ≡ silent) → GathersAnywhere k update k out
over_gathers k update out over says = record {
  steps = λ limits members. over_is limits k members (Item update) out over says;
  silent = λ list. ap frames_of (says list);
  no_store = silent_not_store out says;
}

pub over_stays : (k : Kept) (update : List ℕ) → StaysWith update k k
over_stays k update = record { belongs = λ limits rule members checked b. b; stands = λ rule members checked s fine. s }

-- ---- one that runs

gathers_quiet : (fits : Bool) (s next : SessionData) (list : List Entry) (e : Entry) (out : OutData) (after : List Entry) → Gathers fits s list e next out after → frames_of out ≡ []
gathers_quiet true s next list e out after g = ap frames_of g.1
gathers_quiet false s next list e out after g = ap frames_of g.1

unless_quiet : (fault : Option PeerFault) (s next : SessionData) (list : List Entry) (e : Entry) (out : OutData) (after : List Entry)
    → Unless fault s list next out after (Gathers (is_within (s.waiting ++ gathers s e)) s list e next out after) → frames_of out ≡ []
unless_quiet None s next list e out after u = gathers_quiet (is_within (s.waiting ++ gathers s e)) s next list e out after u
unless_quiet (Some fault) s next list e out after u = ap frames_of u.1

module _ (k next : Kept) (update : List ℕ) (runs : (k.failed || is_some k.state.ended) ≡ false) where
  pub running_gathers : (out : Out) → next.below ≡ k.below → next.failed ≡ k.failed
      → ((limits : Limits) (start list : List Entry) → Takes limits (whole start k) list (state.Item (entry_of update)) (whole start next) (out_of list out) list) → GathersAnywhere k update next out
  running_gathers out below failed takes = record {
    steps = λ limits members. running_steps limits k next members members (Item update) out runs failed (take_seen limits members k next (state.Item (entry_of update)) out below (takes limits));
    silent = λ list. let limits : Limits = record { updates = 0; bytes = 0 } in
        unless_quiet (item_fault (whole [] k) (entry_of update)) (whole [] k) (whole [] next) list (entry_of update) (out_of list out) list (takes limits [] list);
    no_store = let limits : Limits = record { updates = 0; bytes = 0 } in
        plain_not_store limits (whole [] k) (whole [] next) [] (state.Item (entry_of update)) (out_of [] out) [] tt (takes limits [] []);
  }

  pub running_stays : (out : Out) → next.below ≡ k.below → next.failed ≡ k.failed
      → ((limits : Limits) (start list : List Entry) → Takes limits (whole start k) list (state.Item (entry_of update)) (whole start next) (out_of list out) list)
      → ((rule : RuleData) (members : List (List ℕ)) → IsChecked rule update → Stands rule k members → Stands rule next members) → StaysWith update k next
  running_stays out below failed takes stands = record {
    belongs = λ limits rule members checked b.
        let fine = not_over k.failed k.state.ended runs in
        stays_belonging limits rule k next members members (Item update) out runs b (take_seen limits members k next (state.Item (entry_of update)) out below (takes limits)) (stands rule members checked (b fine.0).stands);
    stands = λ rule members checked s fine. stands rule members checked s;
  }

-- where memory ran out
pub failed_stays : (k next : Kept) (update : List ℕ) → next.failed ≡ true → StaysWith update k next
failed_stays k next update failed = record { belongs = λ limits rule members checked b fine. absurd (cc (failed, fine)); stands = λ rule members checked s fine. absurd (cc (failed, fine)) }
