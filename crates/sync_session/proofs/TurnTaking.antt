-- A Turn, from its commit to what it leaves.
use Rattle.std.proofs.Common.{◌≡◌, ◌≤◌, ℕ, suc, cond, Bool, true, false, not, List, [], ◌∷◌, ◌++◌, All, length, map, filter, take, Option, Some, None, Result, Ok, Err, IfOk, OnOk, refl, sym, ap, subst, ◌∙◌, arith, append-nil, length-append, leb-true, le-leb}
use Rattle.std.proofs.lemmas.List.{length-map, map-append, take-append-le}
use Rattle.std.proofs.lemmas.List.Elements.{All-filter, All-map}
use Rattle.std.proofs.lemmas.List.Sums.{sum_by-append}
use Rattle.std.specs.declared.alloc.AllocError.{AllocError}
use Rattle.update_check.specs.Holding.{Commits, IsAdded}
use Rattle.update_check.specs.Signed.{IsChecked}
use Rattle.update_check.specs.declared.holder.CommitFault.{CommitFault}
use Rattle.update_check.specs.declared.holder.CommitFault.TheVariants as commit_faults
use Rattle.update_check.specs.declared.holder.Committed.{Committed as Answer}
use Rattle.update_codec.specs.Parts.{entry_of}
use Rattle.update_model.specs.Batch.{Limits, Adds, not_held, fits}
use Rattle.update_model.specs.Entry.{Entry}
use Rattle.update_model.specs.Graph.{holds, is_within, byte_count, IsClosed}
use Rattle.update_model.specs.Rule.{RuleData}
use Rattle.update_model.proofs.Closed.{Follows-join}
use Rattle.session_rules.specs.declared.peer_fault.PeerFault.{PeerFault}
use Rattle.session_rules.proofs.Words.{and_both, and_join}
use Rattle.update_model.specs.declared.limits.TheConstants.{MAX_BYTES, MAX_MEMBERS}
use Rattle.session_rules.specs.declared.end.End.TheVariants.{Store}
use Rattle.session_rules.specs.Commit.{Added, DiskFault}
use Rattle.session_rules.specs.State.{TurnData, OutData, SessionData}
use Rattle.session_rules.specs.Steps.{closing, heads_in, turn_fault, late_fault, IsTurn, Judges, Unless, Takes}
use Rattle.session_rules.specs.Steps as rules
use Rattle.sync_session.specs.declared.out.Out.{Out}
use Rattle.sync_frames.specs.Payload as payload
use Rattle.sync_session.specs.Kept.{IsSeeking, Kept, Seeks, Stands, emptied, out_of, seen, turn_fault_at, turn_of, whole, with_commit, with_refusal}
use Rattle.sync_session.specs.Turns.{SettlesTo, TakesTurn}
use Rattle.sync_session.proofs.Wanting.{sought_committed}

-- the first part of a list stays as the list grows
pub front_stays : (before added after : List (List ℕ)) (n : ℕ) → after ≡ before ++ added → n ≤ length before → take n (map entry_of after) ≡ take n (map entry_of before)
front_stays before added after n is low =
    let same = length-map before entry_of in
    let within : n ≤ length (map entry_of before) = omega arith in
    ap (λ (xs : List (List ℕ)). take n (map entry_of xs)) is ∙ ap (take n) (map-append entry_of before added) ∙ (rw take-append-le refl)

-- a closed list stays closed
pub closed_after : (limits : Limits) (before batch : List (List ℕ)) (committed : Answer) (after : List (List ℕ)) → IsAdded limits before batch committed after → IsClosed (map entry_of before) → IsClosed (map entry_of after)
closed_after limits before batch committed after a closed =
    subst IsClosed (sym (ap (map entry_of) a.behind ∙ map-append entry_of before a.added)) (Follows-join [] (map entry_of before) (map entry_of a.added) closed a.adds.next)

judges_like : (start : List Entry) (k : Kept) (f : Option PeerFault) (s next : SessionData) (turn own : TurnData) (out : OutData) → Judges f (whole start (emptied k)) s turn own next out → Judges f (whole start k) s turn own next out
judges_like start k (Some f) s next turn own out j = j
judges_like start k None s next turn own out j = j

-- a Turn whose commit added what could be added
pub turn_taken : (limits : Limits) (k next : Kept) (before batch after : List (List ℕ)) (committed : Answer) (turn : TurnData) (out : Out) → turn_fault (seen before k) turn ≡ None → k.below ≤ length before
    → batch ≡ k.pending.waiting ++ k.pending.gathered → IsAdded limits before batch committed after
    → SettlesTo (map entry_of after) (length committed.added) committed.waiting turn (emptied k) next out → TakesTurn limits k before turn next out after
turn_taken limits k next before batch after committed turn out none low batch_is a s =
    subst (λ (f : Option PeerFault). Unless f (seen before k) (map entry_of before) (seen after next) (out_of (map entry_of after) out) (map entry_of after)
    (rules.Settles limits (seen before k) (map entry_of before) turn (seen after next) (out_of (map entry_of after) out) (map entry_of after))) (sym none)
    (Added (map entry_of a.added) (map entry_of committed.waiting), (adds, fit, behind), (s.own, is_turn, judges))
  where
    behind : map entry_of after ≡ map entry_of before ++ map entry_of a.added
    behind = ap (map entry_of) a.behind ∙ map-append entry_of before a.added

    adds : Adds (map entry_of before) (map entry_of k.pending.waiting ++ map entry_of k.pending.gathered) (map entry_of a.added) (map entry_of committed.waiting)
    adds = subst (λ (es : List Entry). Adds (map entry_of before) es (map entry_of a.added) (map entry_of committed.waiting)) (ap (map entry_of) batch_is ∙ map-append entry_of k.pending.waiting k.pending.gathered) a.adds

    fit : fits limits (map entry_of before ++ map entry_of a.added) ≡ true
    fit = subst (λ (es : List Entry). fits limits es ≡ true) behind a.fit

    same_start : take k.below (map entry_of after) ≡ take k.below (map entry_of before)
    same_start = front_stays before a.added after k.below a.behind low

    is_turn : IsTurn (seen before k) (map entry_of after) (map entry_of committed.waiting) s.own
    is_turn = record { have = s.is_turn.have; needs = s.is_turn.needs }

    many : length committed.added ≡ length (map entry_of a.added)
    many = ap length a.ids ∙ length-map a.added _ ∙ sym (length-map a.added entry_of)

    judges : Judges (late_fault (seen before k) turn s.own) (seen before k) (rules.committed (seen before k) turn (map entry_of a.added) (map entry_of committed.waiting)) turn s.own (seen after next) (out_of (map entry_of after) out)
    judges =
        subst (λ (b : ℕ). Judges (late_fault (seen before k) turn s.own) (seen before k) (rules.committed (seen before k) turn (map entry_of a.added) (map entry_of committed.waiting)) turn s.own (whole (take b (map entry_of after)) next) (out_of (map entry_of after) out))
        (sym s.stays.below)
        (subst (λ (n : ℕ). Judges (late_fault (seen before k) turn s.own) (seen before k) (whole (take k.below (map entry_of before)) (with_commit n committed.waiting turn.have (emptied k))) turn s.own (whole (take k.below (map entry_of after)) next) (out_of (map entry_of after) out))
        many
        (subst (λ (start : List Entry). Judges (late_fault (whole start k) turn s.own) (whole start k) (whole start (with_commit (length committed.added) committed.waiting turn.have (emptied k))) turn s.own (whole (take k.below (map entry_of after)) next) (out_of (map entry_of after) out))
        same_start
        (judges_like (take k.below (map entry_of after)) k (late_fault (whole (take k.below (map entry_of after)) k) turn s.own) (whole (take k.below (map entry_of after)) (with_commit (length committed.added) committed.waiting turn.have (emptied k)))
        (whole (take k.below (map entry_of after)) next) turn s.own (out_of (map entry_of after) out) s.judges)))

byte_fewer : (p : Entry → Bool) (es : List Entry) → (length (filter p es) ≤ length es) × (byte_count (filter p es) ≤ byte_count es)
byte_fewer p [] = (omega arith, omega arith)
byte_fewer p (e ∷ es) =
    let rest = byte_fewer p es in let few = rest.0 in let small = rest.1 in
    let kept = sum_by-append (λ (m : Entry). length m.bytes) (e ∷ []) (filter p es) in
    let all = sum_by-append (λ (m : Entry). length m.bytes) (e ∷ []) es in
    elim (p e) as (λ b. (length (cond b (e ∷ filter p es) (filter p es)) ≤ suc (length es)) × (byte_count (cond b (e ∷ filter p es) (filter p es)) ≤ byte_count (e ∷ es))) [
      | true ↦ (omega arith, let more : byte_count (e ∷ filter p es) ≤ byte_count (e ∷ es) = omega arith in more)
      | false ↦ (omega arith, let more : byte_count (filter p es) ≤ byte_count (e ∷ es) = omega arith in more)
    ]

-- what waits of a batch is within the limits where the batch is
pub waits_within : (limits : Limits) (before batch w g : List (List ℕ)) (committed : Answer) (after : List (List ℕ)) → IsAdded limits before batch committed after → batch ≡ w ++ g
    → is_within (map entry_of w ++ map entry_of g) ≡ true → is_within (map entry_of committed.waiting) ≡ true
waits_within limits before batch w g committed after a is within =
    let whole_batch : map entry_of batch ≡ map entry_of w ++ map entry_of g = ap (map entry_of) is ∙ map-append entry_of w g in
    let parts = and_both _ _ (subst (λ (es : List Entry). is_within es ≡ true) (sym whole_batch) within) in
    let fewer = byte_fewer (λ e. not (holds (map entry_of before ++ map entry_of a.added) e.id)) (map entry_of batch) in
    let members = leb-true (length (map entry_of batch)) MAX_MEMBERS parts.0 in
    let bytes = leb-true (byte_count (map entry_of batch)) MAX_BYTES parts.1 in
    let few = fewer.0 in let small = fewer.1 in
    subst (λ (es : List Entry). is_within es ≡ true) (sym a.adds.rest) (and_join _ _ (le-leb (length (not_held (map entry_of before ++ map entry_of a.added) (map entry_of batch))) MAX_MEMBERS (omega arith)) (le-leb (byte_count (not_held (map entry_of before ++ map entry_of a.added) (map entry_of batch))) MAX_BYTES (omega arith)))

-- the fault that the code found is that of the rules
pub fault_at : (v k : Kept) (r : Option PeerFault) (t turn : payload.TurnData) (members : List (List ℕ)) → v ≡ k → t ≡ turn → r ≡ turn_fault_at v.state.role v.state.reading v.state.got_have (turn_of t) → r ≡ None
    → turn_fault (seen members k) (turn_of turn) ≡ None
fault_at v k r t turn members same_state same_turn is none =
    subst (λ (x : payload.TurnData). turn_fault (seen members k) (turn_of x) ≡ None) same_turn (subst (λ (x : Kept). turn_fault (seen members x) (turn_of t) ≡ None) same_state (sym is ∙ none))

-- a refusal leaves the list as it was
pub refused_stays : (limits : Limits) (before batch : List (List ℕ)) (fault : CommitFault) (faults later : ℕ) (after : List (List ℕ)) → Commits limits before batch (Err fault) faults later after → after ≡ before
refused_stays limits before batch commit_faults.Full faults later after c = c.1
refused_stays limits before batch commit_faults.DiskFault faults later after c = c.1
refused_stays limits before batch commit_faults.Memory faults later after c = c

-- a Turn whose commit the disk refused
pub turn_refused : (limits : Limits) (k next : Kept) (before after : List (List ℕ)) (turn : TurnData) (out : Out) → turn_fault (seen before k) turn ≡ None → after ≡ before → next ≡ with_refusal Store k
    → ((es : List Entry) → out_of es out ≡ closing Store) → TakesTurn limits k before turn next out after
turn_refused limits k next before after turn out none same is says =
    subst (λ (x : List (List ℕ)). TakesTurn limits k before turn next out x) (sym same)
    (subst (λ (n : Kept). TakesTurn limits k before turn n out before) (sym is)
    (subst (λ (f : Option PeerFault). Unless f (seen before k) (map entry_of before) (seen before (with_refusal Store k)) (out_of (map entry_of before) out) (map entry_of before)
    (rules.Settles limits (seen before k) (map entry_of before) turn (seen before (with_refusal Store k)) (out_of (map entry_of before) out) (map entry_of before))) (sym none)
    (DiskFault, refl, (refl, says (map entry_of before)))))

pub bytes_back : (us : List (List ℕ)) → map (λ (e : Entry). e.bytes) (map entry_of us) ≡ us
bytes_back [] = refl
bytes_back (u ∷ us) = ap (λ (xs : List (List ℕ)). u ∷ xs) (bytes_back us)

-- what waits of a batch is under the rule where the batch is
waits_under : (rule : RuleData) (held : List Entry) (batch waiting : List (List ℕ)) → map entry_of waiting ≡ not_held held (map entry_of batch) → All (IsChecked rule) batch → All (IsChecked rule) waiting
waits_under rule held batch waiting rest all =
    subst (All (IsChecked rule)) (bytes_back waiting)
    (All-map (IsChecked rule) (λ (e : Entry). e.bytes) (map entry_of waiting)
    (subst (All (λ (e : Entry). IsChecked rule e.bytes)) (sym rest)
    (All-filter (λ e. not (holds held e.id)) (λ (e : Entry). IsChecked rule e.bytes) (map entry_of batch) (All-map (λ (e : Entry). IsChecked rule e.bytes) entry_of batch all))))

-- what a session stands on after a Turn
turn_stands : (limits : Limits) (rule : RuleData) (k next : Kept) (before batch after : List (List ℕ)) (committed : Answer) (turn : TurnData) (out : Out) → batch ≡ k.pending.waiting ++ k.pending.gathered
    → IsAdded limits before batch committed after → Stands rule k before → SettlesTo (map entry_of after) (length committed.added) committed.waiting turn (emptied k) next out → IsSeeking (map entry_of after) next → Stands rule next after
turn_stands limits rule k next before batch after committed turn out batch_is a s settles seeks =
    let grows = ap length a.behind in
    let longer = length-append before a.added in
    let low = s.below in
    let same = settles.stays.below in
    let front : take next.below (map entry_of after) ≡ take k.below (map entry_of before) = ap (λ b. take b (map entry_of after)) same ∙ front_stays before a.added after k.below a.behind low in
    record {
      below = omega (arith, length-append before a.added);
      heads = λ id. rw (front, settles.stays.heads) (s.heads id);
      under = rw (settles.stays.pending, append-nil) (waits_under rule (map entry_of before ++ map entry_of a.added) batch committed.waiting a.adds.rest (subst (All (IsChecked rule)) (sym batch_is) s.under));
      seeks = seeks;
    }

-- the same of what a call answers, where it was handed the emptied session
pub answers_turn : (limits : Limits) (k v next : Kept) (before batch after : List (List ℕ)) (committed : Answer) (t turn : payload.TurnData) (r : Result Out AllocError) → v ≡ emptied k → t ≡ turn
    → turn_fault (seen before k) (turn_of turn) ≡ None → k.below ≤ length before → batch ≡ k.pending.waiting ++ k.pending.gathered → IsAdded limits before batch committed after
    → IfOk r (λ out. SettlesTo (map entry_of after) (length committed.added) committed.waiting (turn_of t) v next out) → IfOk r (λ out. TakesTurn limits k before (turn_of turn) next out after)
answers_turn limits k v next before batch after committed t turn (Ok out) same_state same_turn none low batch_is a s =
    turn_taken limits k next before batch after committed (turn_of turn) out none low batch_is a
    (subst (λ (x : Kept). SettlesTo (map entry_of after) (length committed.added) committed.waiting (turn_of turn) x next out) same_state
    (subst (λ (x : payload.TurnData). SettlesTo (map entry_of after) (length committed.added) committed.waiting (turn_of x) v next out) same_turn s))
answers_turn limits k v next before batch after committed t turn (Err e) same_state same_turn none low batch_is a s = tt

pub answers_stands : (limits : Limits) (rule : RuleData) (k v next : Kept) (before batch after : List (List ℕ)) (committed : Answer) (t : TurnData) (r : Result Out AllocError) → v ≡ emptied k
    → batch ≡ k.pending.waiting ++ k.pending.gathered → IsAdded limits before batch committed after → Stands rule k before
    → IfOk r (λ out. SettlesTo (map entry_of after) (length committed.added) committed.waiting t v next out) → OnOk r (IsSeeking (map entry_of after) next) → OnOk r (Stands rule next after)
answers_stands limits rule k v next before batch after committed t (Ok out) same_state batch_is a stands s seeks =
    turn_stands limits rule k next before batch after committed t out batch_is a stands
    (subst (λ (x : Kept). SettlesTo (map entry_of after) (length committed.added) committed.waiting t x next out) same_state s) seeks
answers_stands limits rule k v next before batch after committed t (Err e) same_state batch_is a stands s seeks = tt

-- what a session seeks once a commit has added what could be added
pub seeks_committed : (limits : Limits) (k v : Kept) (before batch after : List (List ℕ)) (committed : Answer) → v ≡ emptied k → batch ≡ k.pending.waiting ++ k.pending.gathered
    → IsAdded limits before batch committed after → Seeks (map entry_of before) k → Seeks (map entry_of after) (with_commit 0 committed.waiting true v)
seeks_committed limits k v before batch after committed same batch_is a seeks =
    subst (λ (x : Kept). Seeks (map entry_of after) (with_commit 0 committed.waiting true x)) (sym same)
    (subst (λ (es : List Entry). Seeks es (with_commit 0 committed.waiting true (emptied k))) (sym (ap (map entry_of) a.behind ∙ map-append entry_of before a.added))
    (sought_committed (heads_in k.state.peer) (map entry_of before) (map entry_of a.added) k.pending committed.waiting k.state.asked k.sought seeks
    (a.adds.rest ∙ ap (not_held (map entry_of before ++ map entry_of a.added)) (ap (map entry_of) batch_is ∙ map-append entry_of k.pending.waiting k.pending.gathered))))
