-- A Turn, by the rules.
use Rattle.std.proofs.Common.{◌≡◌, ℕ, ◌+◌, Bool, true, false, ◌&&◌, if◌then◌else◌, List, [], map, take, slice_get, filter_map, Option, Some, None, option_map, refl, sym, ap, subst, ◌∙◌}
use Rattle.update_codec.specs.Parts.{entry_of}
use Rattle.update_model.specs.declared.update_id.UpdateId.{UpdateId}
use Rattle.update_model.specs.Entry.{Entry}
use Rattle.session_rules.specs.declared.end.End.{End}
use Rattle.session_rules.specs.declared.end.End.TheVariants.{Done, Peer}
use Rattle.session_rules.specs.declared.peer_fault.PeerFault.{PeerFault}
use Rattle.session_rules.specs.State.{TurnData, Answers}
use Rattle.session_rules.specs.Steps.{closing, heads_in, is_first, Joins, IsSent, IsTurn, Judges, Replies}
use Rattle.sync_session.specs.declared.out.Out.{Out}
use Rattle.sync_session.specs.Kept.{Kept, late_fault_at, out_of, turn_of, whole, with_commit, with_end, IsSeeking, LeavesSought}
use Rattle.sync_session.proofs.Wanting.{sought_asked}
use Rattle.sync_session.specs.Turns.{Awaits, RepliesTo, SettlesTo, Stays}

-- the next turn is sent
pub awaited : (turn own : TurnData) (k next : Kept) (asked peer_asked due : List UpdateId) (have : Bool) → Joins k.state.asked own.needs asked → Joins k.state.peer_asked turn.needs peer_asked → have ≡ own.have → due ≡ own.needs
    → next ≡ record k { state = record k.state { reading = Answers due; began = false; items = 0; turns = k.state.turns + 1; sent_have = have; asked = asked; peer_asked = peer_asked } } → Awaits turn own k next
awaited turn own k next asked peer_asked due have joins joins_peer same_have same_due n = record { asked = asked; peer_asked = peer_asked; joins = joins; joins_peer = joins_peer; state = rw (n, same_have, same_due) refl }

pub replied_to : (list : List Entry) (first : Bool) (turn own : TurnData) (k mid next : Kept) (gives : Out) (ids : List ℕ) (ending : Option End)
    → IsSent first (whole (take k.below list) k) turn (filter_map (slice_get list) ids) → Awaits turn own k mid
    → gives.hello ≡ None → gives.send ≡ ids → option_map turn_of gives.turn ≡ Some own → gives.end ≡ ending → ending ≡ (if own.have && turn.have then Some Done else None)
    → next ≡ record mid { state = record mid.state { ended = ending } } → RepliesTo list first turn own k next gives
replied_to list first turn own k mid next gives ids ending sent a hello send says ends is n =
    let from : next ≡ record k { state = record k.state { reading = Answers own.needs; began = false; items = 0; turns = k.state.turns + 1; sent_have = own.have; asked = a.asked; peer_asked = a.peer_asked; ended = ending } }
    = n ∙ ap (λ (x : Kept). record x { state = record x.state { ended = ending } }) a.state in
    record {
      replies = (filter_map (slice_get list) ids, a.asked, a.peer_asked, sent, a.joins, a.joins_peer, rw (hello, send, says, ends, is) refl, rw (from, is) refl);
      stays = rw from (record { below = refl; heads = refl; pending = refl; failed = refl });
    }

-- ---- after the commit

same_turn : (list start : List Entry) (n : ℕ) (w : List (List ℕ)) (have : Bool) (k : Kept) (own : TurnData) → IsTurn (whole start (with_commit n w have k)) list (map entry_of w) own → IsTurn (whole start k) list (map entry_of w) own
same_turn list start n w have k own t = record { have = t.have; needs = t.needs }

-- a Turn is answered as it is judged
pub settled : (list : List Entry) (n : ℕ) (w : List (List ℕ)) (turn own : TurnData) (k next : Kept) (gives : Out) (first : Bool) (fault : Option PeerFault)
    → ((start : List Entry) → IsTurn (whole start (with_commit n w turn.have k)) list (map entry_of w) own) → first ≡ is_first k.state.role k.state.reading
    → fault ≡ late_fault_at first (take k.below list) k.state.peer_asked turn own
    → Judges fault (whole (take k.below list) k) (whole (take k.below list) (with_commit n w turn.have k)) turn own (whole (take k.below list) next) (out_of list gives)
    → Stays (with_commit n w turn.have k) next → SettlesTo list n w turn k next gives
settled list n w turn own k next gives first fault t is_first_turn is judged stays = record {
  own = own;
  is_turn = same_turn list (take k.below list) n w turn.have k own (t (take k.below list));
  judges = subst (λ (f : Option PeerFault). Judges f (whole (take k.below list) k) (whole (take k.below list) (with_commit n w turn.have k)) turn own (whole (take k.below list) next) (out_of list gives))
      (is ∙ ap (λ b. late_fault_at b (take k.below list) k.state.peer_asked turn own) is_first_turn) judged;
  stays = stays;
}

-- what holds of the end once its commit is kept
pub record Settles (list : List Entry) (n : ℕ) (w : List (List ℕ)) (turn own : TurnData) (k kk : Kept) (first : Bool) (fault : Option PeerFault) : Type 0 where
  pub kept : kk ≡ record (with_commit n w turn.have k) { sought = kk.sought }
  pub is_turn : (start : List Entry) → IsTurn (whole start kk) list (map entry_of kk.pending.waiting) own
  pub first_is : first ≡ is_first k.state.role k.state.reading
  pub fault_is : fault ≡ late_fault_at first (take kk.below list) kk.state.peer_asked turn own

by_judging : (list : List Entry) (n : ℕ) (w : List (List ℕ)) (turn own : TurnData) (k kk next : Kept) (gives : Out) (first : Bool) (fault : Option PeerFault) → Settles list n w turn own k kk first fault
    → Judges fault (whole (take k.below list) k) (whole (take k.below list) kk) turn own (whole (take k.below list) next) (out_of list gives) → Stays kk next → SettlesTo list n w turn k next gives
by_judging list n w turn own k kk next gives first fault s judged stays =
    settled list n w turn own k next gives first fault
    (subst (λ (x : Kept). (start : List Entry) → IsTurn (whole start x) list (map entry_of x.pending.waiting) own) s.kept s.is_turn) s.first_is
    (subst (λ (x : Kept). fault ≡ late_fault_at first (take x.below list) x.state.peer_asked turn own) s.kept s.fault_is)
    (subst (λ (x : Kept). Judges fault (whole (take k.below list) k) (whole (take k.below list) x) turn own (whole (take k.below list) next) (out_of list gives)) s.kept judged)
    (let same = subst (λ (x : Kept). Stays x next) s.kept stays in record { below = same.below; heads = same.heads; pending = same.pending; failed = same.failed })

stays_end : (ending : End) (kk next : Kept) → next ≡ with_end ending kk → Stays kk next
stays_end ending kk next is = rw is (record { below = refl; heads = refl; pending = refl; failed = refl })

-- it shows a fault
pub settled_fault : (list : List Entry) (n : ℕ) (w : List (List ℕ)) (turn own : TurnData) (k kk next : Kept) (gives : Out) (first : Bool) (fault : PeerFault) → Settles list n w turn own k kk first (Some fault)
    → next ≡ with_end (Peer fault) kk → ((es : List Entry) → out_of es gives ≡ closing (Peer fault)) → SettlesTo list n w turn k next gives
settled_fault list n w turn own k kk next gives first fault s is says =
    by_judging list n w turn own k kk next gives first (Some fault) s (ap (whole (take k.below list)) is, says list) (stays_end (Peer fault) kk next is)

-- both ends have all
pub settled_done : (list : List Entry) (n : ℕ) (w : List (List ℕ)) (turn own : TurnData) (k kk next : Kept) (gives : Out) (first both : Bool) → Settles list n w turn own k kk first None
    → both ≡ (k.state.sent_have && turn.have) → both ≡ true → next ≡ with_end Done kk → ((es : List Entry) → out_of es gives ≡ closing Done) → SettlesTo list n w turn k next gives
settled_done list n w turn own k kk next gives first both s both_is yes_both is says =
    by_judging list n w turn own k kk next gives first None s
    (subst (λ (b : Bool). Replies b (is_first k.state.role k.state.reading) (whole (take k.below list) kk) turn own (whole (take k.below list) next) (out_of list gives)) (sym yes_both ∙ both_is) (ap (whole (take k.below list)) is, says list))
    (stays_end Done kk next is)

-- the session goes on
pub settled_reply : (list : List Entry) (n : ℕ) (w : List (List ℕ)) (turn own : TurnData) (k kk next : Kept) (gives : Out) (first both : Bool) → Settles list n w turn own k kk first None
    → both ≡ (k.state.sent_have && turn.have) → both ≡ false → RepliesTo list first turn own kk next gives → SettlesTo list n w turn k next gives
settled_reply list n w turn own k kk next gives first both s both_is not_both r =
    by_judging list n w turn own k kk next gives first None s
    (subst (λ (b : Bool). Replies b (is_first k.state.role k.state.reading) (whole (take k.below list) kk) turn own (whole (take k.below list) next) (out_of list gives)) (sym not_both ∙ both_is)
    (subst (λ (f : Bool). Replies false f (whole (take k.below list) kk) turn own (whole (take k.below list) next) (out_of list gives)) s.first_is
    (subst (λ (b : ℕ). Replies false first (whole (take b list) kk) turn own (whole (take b list) next) (out_of list gives)) (ap (λ (x : Kept). x.below) s.kept) r.replies)))
    r.stays

-- the same sets
pub joins_at : (a b ids named both : List UpdateId) → Joins a ids both → a ≡ b → ids ≡ named → Joins b named both
joins_at a b ids named both j same_set same_ids = subst (λ (x : List UpdateId). Joins x named both) same_set (subst (λ (x : List UpdateId). Joins a x both) same_ids j)

-- ---- what is sought

-- a session that has ended seeks nothing
pub seeking_ended : (ending : End) (k next : Kept) (list : List Entry) → next ≡ with_end ending k → IsSeeking list next
seeking_ended ending k next list is = subst (IsSeeking list) (sym is) (λ going. absurd cc)

-- once its Turn is sent, an end seeks what it did not ask for
pub seeking_replied : (list : List Entry) (turn own : TurnData) (k mid next : Kept) (ending : Option End) → k.pending.gathered ≡ [] → LeavesSought list own k k.sought → Awaits turn own k mid
    → next ≡ record mid { state = record mid.state { ended = ending } } → IsSeeking list next
seeking_replied list turn own k mid next ending settled left a n =
    subst (IsSeeking list) (sym (n ∙ ap (λ (x : Kept). record x { state = record x.state { ended = ending } }) a.state))
    (λ going. sought_asked (heads_in k.state.peer) list k.pending k.state.asked own.needs a.asked k.sought settled left a.joins.exact)
