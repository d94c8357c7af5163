-- What a seat adds while its session goes on.
use Rattle.std.proofs.Common.{◌≡◌, ◌+◌, ℕ, Bool, List, length, map, ap, sym, ◌∙◌, subst, arith}
use Rattle.std.proofs.lemmas.List.{length-append, length-map}
use Rattle.replica.specs.Replicas.{ReplicaState}
use Rattle.update_codec.specs.Parts.{entry_of}
use Rattle.update_model.specs.Batch.{Limits}
use Rattle.session_rules.specs.State.{FrameData, OutData, SessionData}
use Rattle.session_rules.specs.Steps.{Steps}
use Rattle.session_rules.proofs.Growth.{steps_grow}
use Rattle.turn_lock.specs.Seats.{Known}
use Rattle.shared_replica.specs.declared.entry.Entry.{Entry}
use Rattle.shared_replica.specs.Acts.{IsAct}
use Rattle.shared_replica.specs.Entries.{added_by, updates_of}
use Rattle.shared_replica.proofs.Counting.{act_adds, act_grows, looks_add}
use Rattle.session_server.specs.Sessions.{HasAdded}
use Rattle.session_server.specs.Talks.{IsQuiet, IsStill}

pub quiet_then : (a b c : Known Entry) → IsStill a b → IsQuiet a b → IsQuiet b c → IsQuiet a c
quiet_then a b c still p q seat is = q seat (still.numbered seat is) ∙ p seat is

-- an act that only looks
pub quiet_act : (before after : Known Entry) (P : List Entry) (store : ReplicaState) (fault : Bool) → IsAct before after P store store fault → IsQuiet before after
quiet_act before after P store fault a seat is =
    let same : a.seat ≡ seat = let own = sym a.number ∙ a.named seat is in cc (own) in
    subst (λ (n : ℕ). added_by n after.seen ≡ added_by n before.seen) same (looks_add before after P store fault a)

-- a session that began added nothing
pub begun_added : (before after : Known Entry) (P : List Entry) (store : ReplicaState) (fault : Bool) → IsAct before after P store store fault → HasAdded before after 0
begun_added before after P store fault a = record { seat = a.seat; own = a.number; all = let same = looks_add before after P store fault a in omega (arith, same) }

-- nor does it where nothing was added meanwhile
pub quiet_added : (first pass after : Known Entry) (count : ℕ) → HasAdded first pass count → IsStill pass after → IsQuiet pass after → HasAdded first after count
quiet_added first pass after count h still quiet = record { seat = h.seat; own = still.numbered h.seat h.own; all = quiet h.seat h.own ∙ h.all }

pub again_added : (first pass after : Known Entry) (P : List Entry) (store : ReplicaState) (fault : Bool) (count : ℕ) → HasAdded first pass count → IsAct pass after P store store fault → HasAdded first after count
again_added first pass after P store fault count h a = record { seat = h.seat; own = a.named h.seat h.own; all = quiet_act pass after P store fault a h.seat h.own ∙ h.all }

-- what an act of it added counts
pub act_added : (first pass after : Known Entry) (P : List Entry) (old new : ReplicaState) (fault : Bool) (count : ℕ) → HasAdded first pass count → (a : IsAct pass after P old new fault) → HasAdded first after (count + length a.added)
act_added first pass after P old new fault count h a =
    let same : a.seat ≡ h.seat = let own = sym a.number ∙ a.named h.seat h.own in cc (own) in
    let more : added_by h.seat after.seen ≡ added_by h.seat pass.seen + length a.added =
    subst (λ (n : ℕ). added_by n after.seen ≡ added_by n pass.seen + length a.added) same (act_adds pass after P old new fault a) in
    let was = h.all in
    record { seat = h.seat; own = a.named h.seat h.own; all = omega (arith, more, was) }

-- and is what the session gains
pub step_added : (limits : Limits) (first pass after : Known Entry) (P : List Entry) (old new : ReplicaState) (fault : Bool) (s next : SessionData) (frame : FrameData) (out : OutData) → HasAdded first pass s.gained
    → IsAct pass after P old new fault → Steps limits s (map entry_of (updates_of P)) frame next out (map entry_of (updates_of after.seen)) → HasAdded first after next.gained
step_added limits first pass after P old new fault s next frame out h a step =
    let g = steps_grow limits s (map entry_of (updates_of P)) next out (map entry_of (updates_of after.seen)) frame step in
    let long = length-map (updates_of after.seen) entry_of in
    let short = length-map (updates_of P) entry_of in
    let whole = ap length g.is ∙ length-append (map entry_of (updates_of P)) g.new in
    let grown = act_grows pass after P old new fault a in
    let counts = g.gained in
    let same : s.gained + length a.added ≡ next.gained = omega (arith, long, short, whole, grown, counts) in
    subst (λ (n : ℕ). HasAdded first after n) same (act_added first pass after P old new fault s.gained h a)

-- a step that leaves the list gains nothing
pub same_gained : (limits : Limits) (s next : SessionData) (members : List (List ℕ)) (frame : FrameData) (out : OutData) → Steps limits s (map entry_of members) frame next out (map entry_of members) → s.gained ≡ next.gained
same_gained limits s next members frame out step =
    let g = steps_grow limits s (map entry_of members) next out (map entry_of members) frame step in
    let whole = ap length g.is ∙ length-append (map entry_of members) g.new in
    let counts = g.gained in
    omega (arith, whole, counts)
