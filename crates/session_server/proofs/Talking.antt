-- A session over a link goes on, frame by frame.
use Rattle.std.proofs.Common.{◌≡◌, ◌≢◌, ◌⊎◌, ◌≤◌, inl, inr, ℕ, Bool, true, false, List, [], ◌∷◌, ◌++◌, map, take, drop, length, Option, Some, None, Result, Ok, Err, refl, sym, ap, subst, ◌∙◌, append_assoc, append-nil, arith}
use Rattle.std.proofs.lemmas.List.{map-append, length-map}
use lib.Seq.{take-append-le}
use Rattle.std.specs.Prelude.{option_map}
use Rattle.std.specs.Io.KnownBytes.{Appends, Consumes, IsAtEnd}
use Rattle.std.proofs.KnownBytes.{Appends-trans, Consumes-nil, Consumes-trans}
use mathlib.Core.List.{IsPrefix}
use Rattle.bec_bytes.specs.Causes.{Rose}
use Rattle.replica.specs.Replicas.{ReplicaState}
use Rattle.update_check.specs.Signed.{IsChecked}
use Rattle.update_codec.specs.Parts.{entry_of}
use Rattle.update_model.specs.declared.update_id.UpdateId.{UpdateId}
use Rattle.update_model.specs.Batch.{Limits, store_limits}
use Rattle.update_model.specs.Entry.{Entry as GraphEntry}
use Rattle.update_model.specs.Rule.{RuleData}
use Rattle.session_rules.specs.Course.{opened}
use Rattle.session_rules.specs.Pair.{frames_of}
use Rattle.session_rules.specs.State.{FrameData, Hello, OtherVersion, Item, BadItem, Turn, NoFrame, SessionData, OutData}
use Rattle.session_rules.specs.Steps.{Steps, StepsBy as RulesBy, silent}
use Rattle.session_rules.specs.declared.role.Role.{Role}
use Rattle.session_rules.specs.declared.role.Role.TheVariants.{Initiator, Responder}
use Rattle.session_rules.specs.declared.end.End.{End}
use Rattle.session_rules.specs.declared.end.End.TheVariants as ends
use Rattle.sync_session.specs.Kept.{BelongsTo, Kept, Stands, StepsBy, StepsTo, frame_of, out_of, seen, whole}
use Rattle.sync_session.specs.Gathering.{BelongsSomewhere, GathersAnywhere, StaysWith}
use Rattle.sync_session.specs.declared.checked_frame.CheckedFrame.{CheckedFrame}
use Rattle.sync_session.specs.declared.checked_frame.CheckedFrame.TheVariants as items
use Rattle.sync_session.specs.declared.out.Out.{Out}
use Rattle.turn_lock.specs.Seats.{Known}
use Rattle.shared_replica.specs.declared.entry.Entry.{Entry}
use Rattle.shared_replica.specs.declared.entry.Opening.{Opening}
use Rattle.shared_replica.specs.Acts.{IsAct}
use Rattle.shared_replica.specs.Entries.{IsStoreOf, entries_by, opening_of, updates_of}
use Rattle.shared_replica.specs.Sessions.{BelongsIn, IsRuledBy, IsUnder, is_store, met_store}
use Rattle.shared_replica.proofs.Going.{begun_after, ruled_longer, ruled_once}
use Rattle.link_frames.specs.Course.{Comes, opens, hears}
use Rattle.link_frames.specs.Hearing.{AllArrive, AreFrontOf, AreSaid, Hears, Reads, said_by}
use Rattle.link_frames.specs.Listening.{HearsIn}
use Rattle.sync_frames.specs.Fed.{FedData, Feeds}
use Rattle.sync_frames.specs.Stream.{IsBegun, IsBroken}
use Rattle.link_frames.proofs.Pieces.{arrive_append, arrive_one, hears_all, hears_first, hears_none, hears_so_far, reads_on}
use Rattle.sync_frames.specs.declared.frame.Frame.{Frame}
use Rattle.sync_session.specs.Carrying.{Arrives}
use Rattle.link_frames.specs.Saying.{HasCause as HasHalt, Says}
use Rattle.link_frames.specs.declared.saying.Halt.{Halt}
use Rattle.link_frames.specs.declared.saying.Halt.TheVariants as halts
use Rattle.link_frames.proofs.Sentences.{front_behind, front_whole, said_append}
use Rattle.link_frames.proofs.Having.{step_has}
use Rattle.session_server.specs.declared.ending.Ending.{Ending}
use Rattle.session_server.specs.declared.ending.Ending.TheVariants.{Done, Peer as BadPeer, Cut, Full, Broken, Store, Memory}
use Rattle.session_server.specs.Sessions.{HasAdded, HasCause, IsAllRead, IsPut}
use Rattle.peer_memory.specs.declared.peer.Peer.{Peer}
use Rattle.peer_memory.specs.Peers.{heads_under}
use Rattle.session_server.specs.Recalling.{heads_for, recalled}
use Rattle.session_server.specs.Talks.{Begins, Goes, HasCauseBy, HeardFront, HeardOne, IsFresh, IsPutBy, IsQuiet, IsStill, IsTalk, IsTalkWith, ReadsBy, ReadsTo, Start, TookOne, ending_of, first_node_of, is_cut, over_by}
use Rattle.session_server.proofs.Gaining.{again_added, quiet_added, same_gained, step_added}
use Rattle.session_server.proofs.Passing.{act_still, prefix_self, prefix_then, still_then, updates_prefix}

-- ---- the replica of a list

-- a list that begins with a replica of this rule is that of a replica of this rule
pub same_replica : (list P : List Entry) (rule : RuleData) (store : ReplicaState) (r : IsRuledBy list rule) → IsPrefix list P → IsStoreOf P store → (store.node ≡ r.opening.node) × (store.history.schema.rule ≡ rule)
same_replica list P rule store r p s =
    let longer = ruled_longer list P rule p r in
    let firsts = sym s.first ∙ longer.first in
    let openings : record (opening_of store) { faults = s.start } ≡ r.opening = cc in
    (ap (λ (o : Opening). o.node) openings, ap (λ (o : Opening). o.schema.rule) openings ∙ r.same)

-- ---- a list that has grown

take_front : {A : Type 0} (n : ℕ) (xs ys : List A) → n ≤ length xs → take n (xs ++ ys) ≡ take n xs
take_front n xs ys le = take-append-le n xs ys le

-- a session is seen over a longer list as it was
pub seen_longer : (rule : RuleData) (k : Kept) (members more : List (List ℕ)) → IsPrefix members more → Stands rule k members → seen more k ≡ seen members k
seen_longer rule k members more p s =
    let same : map entry_of more ≡ map entry_of members ++ map entry_of p.0 = sym (ap (map entry_of) p.1) ∙ map-append entry_of members p.0 in
    let few : k.below ≤ length (map entry_of members) = let n = length-map members entry_of in let b = s.below in omega arith in
    ap (λ (l : List GraphEntry). whole l k) (ap (take k.below) same ∙ take_front k.below (map entry_of members) (map entry_of p.0) few)

-- ---- a session that ended from outside

-- memory ran out
pub talk_stops : (rule : RuleData) (role : Role) (start : Start) (old : List UpdateId) (pass after : Known Entry) (k next : Kept) (fresh : Bool) (held : Option (List ℕ)) (faults : ℕ) (heard : List FrameData)
    → IsTalk rule role start old pass k fresh held faults heard None → IsStill pass after → ((next ≡ k) ⊎ (next.failed ≡ true)) → IsTalk rule role start old after next fresh held faults heard (Some Memory)
talk_stops rule role start old pass after k next fresh held faults heard t s or = record {
  same_lock = s.lock ∙ t.same_lock;
  seen_more = prefix_then start.first.seen pass.seen after.seen t.seen_more s.seen;
  numbered = λ n is. s.numbered n (t.numbered n is);
  ruled = t.ruled;
  reached = t.reached;
  members = t.members;
  said = t.said;
  course = t.course;
  within = prefix_then t.members (updates_of pass.seen) (updates_of after.seen) t.within (updates_prefix pass.seen after.seen s.seen);
  stands = λ is. stands_on or is;
  put = t.put;
  grew = t.grew;
  is_put = subst (λ (l : List FrameData). AreFrontOf l t.put) (append-nil t.said) (front_whole t.said [] t.put t.is_put);
  cause = tt;
  later = t.later;
  is_fresh = t.is_fresh;
  failed = λ is. refl;
  counts = λ other. absurd (other refl);
}
  where
    stands_on : ((next ≡ k) ⊎ (next.failed ≡ true)) → next.failed ≡ false → (t.reached ≡ seen t.members next) × Stands rule next t.members
    stands_on (inl same) is = subst (λ (x : Kept). (t.reached ≡ seen t.members x) × Stands rule x t.members) (sym same) (t.stands (sym (ap (λ (x : Kept). x.failed) same) ∙ is))
    stands_on (inr failed) is = absurd (cc (sym failed ∙ is))

-- ---- the beginning

fresh_said : (limits : Limits) (database node : List ℕ) (old : List UpdateId) (known : List (List ℕ)) (s : SessionData) (members : List (List ℕ)) (heard said : List FrameData) → Comes limits Responder database node old known s members heard said → heard ≡ [] → said ≡ []
fresh_said limits database node old known s members heard said (opens s' m' h' d' out is greets none frames knows) empty = frames ∙ ap frames_of greets
fresh_said limits database node old known t after all answers (hears s t' members before after' heard said all' answers' frame out comes begins step grew says) empty = absurd (no_more heard frame (sym grew ∙ empty))
  where
    no_more : (xs : List FrameData) (x : FrameData) → xs ++ x ∷ [] ≡ [] → ⊥
    no_more [] x is = cc
    no_more (y ∷ ys) x is = cc

fresh_gained : (limits : Limits) (database node : List ℕ) (old : List UpdateId) (known : List (List ℕ)) (s : SessionData) (members : List (List ℕ)) (heard said : List FrameData) → Comes limits Responder database node old known s members heard said → heard ≡ [] → s.gained ≡ 0
fresh_gained limits database node old known s members heard said (opens s' m' h' d' out is greets none frames knows) empty = ap (λ (x : SessionData). x.gained) is
fresh_gained limits database node old known t after all answers (hears s t' members before after' heard said all' answers' frame out comes begins step grew says) empty = absurd (no_more heard frame (sym grew ∙ empty))
  where
    no_more : (xs : List FrameData) (x : FrameData) → xs ++ x ∷ [] ≡ [] → ⊥
    no_more [] x is = cc
    no_more (y ∷ ys) x is = cc

-- a session that began belongs to what its pass has seen
pub begins_goes : (pass after : Known Entry) (role : Role) (old : List UpdateId) (k : Kept) (out : Out) → Begins pass after role old k out → Goes pass after k
begins_goes pass after role old k out b =
    record { still = act_still pass after b.point b.store b.store false b.act; belongs = begun_after pass after b.point b.store b.store false k b.act b.belongs }

-- what a session that began over this list stands on
pub begun_stands : (rule : RuleData) (pass after : Known Entry) (role : Role) (old : List UpdateId) (k : Kept) (out : Out) (b : Begins pass after role old k out) → b.store.history.schema.rule ≡ rule → Stands rule k (updates_of b.point)
begun_stands rule pass after role old k out b same = subst (λ (r : RuleData). Stands r k (updates_of b.point)) same (b.belongs b.starts.failed).stands

-- a responder begins again, before it heard anything
pub talk_again : (rule : RuleData) (start : Start) (old again : List UpdateId) (pass after : Known Entry) (k next : Kept) (fresh : Bool) (held : Option (List ℕ)) (faults : ℕ) (heard : List FrameData) (out : Out)
    → IsTalk rule Responder start old pass k fresh held faults heard None → heard ≡ [] → Begins pass after Responder again next out → IsTalk rule Responder start again after next true held faults heard None
talk_again rule start old again pass after k next fresh held faults heard out t empty b =
    let still = act_still pass after b.point b.store b.store false b.act in
    let before = prefix_then start.first.seen pass.seen b.point t.seen_more b.act.began in
    let same = same_replica start.first.seen b.point rule b.store t.ruled before b.act.stood in
    let none = fresh_said store_limits rule.database t.ruled.opening.node old (updates_of start.first.seen) t.reached t.members heard t.said t.course empty in
    let is : seen (updates_of b.point) next ≡ opened Responder rule.database t.ruled.opening.node again (map entry_of (updates_of b.point)) =
    b.starts.state ∙ ap (λ (d : List ℕ). opened Responder d b.store.node again (map entry_of (updates_of b.point))) (ap (λ (r : RuleData). r.database) same.1)
    ∙ ap (λ (n : List ℕ). opened Responder rule.database n again (map entry_of (updates_of b.point))) same.0 in
    record {
      same_lock = still.lock ∙ t.same_lock;
      seen_more = prefix_then start.first.seen pass.seen after.seen t.seen_more still.seen;
      numbered = λ n e. still.numbered n (t.numbered n e);
      ruled = t.ruled;
      reached = seen (updates_of b.point) next;
      members = updates_of b.point;
      said = [];
      course = opens (seen (updates_of b.point) next) (updates_of b.point) heard [] silent is refl empty refl (updates_prefix start.first.seen b.point before);
      within = updates_prefix b.point after.seen (entries_by b.act.seat after.acts b.act.added false, sym b.act.ended);
      stands = λ e. (refl, begun_stands rule pass after Responder again next out b same.1);
      put = t.put;
      grew = t.grew;
      is_put = subst (λ (l : List FrameData). AreSaid l t.put) none t.is_put;
      cause = ap (λ (s : SessionData). s.ended) is;
      later = t.later;
      is_fresh = empty;
      failed = λ e. absurd (cc (sym b.starts.failed ∙ e));
      counts = λ other.
          let was = fresh_gained store_limits rule.database t.ruled.opening.node old (updates_of start.first.seen) t.reached t.members heard t.said t.course empty in
          again_added start.first pass after b.point b.store false (seen (updates_of b.point) next).gained
          (subst (λ (n : ℕ). HasAdded start.first pass n) (was ∙ sym (ap (λ (s : SessionData). s.gained) is)) (t.counts (λ none. cc (none)))) b.act;
    }

-- ---- a step

-- where memory ran out in the step
pub take_failed : (rule : RuleData) (role : Role) (start : Start) (old : List UpdateId) (pass after : Known Entry) (k next : Kept) (fresh : Bool) (held : Option (List ℕ)) (faults : ℕ) (heard : List FrameData)
    (P : List Entry) (store new : ReplicaState) (fault : Bool)
    → IsTalk rule role start old pass k fresh held faults heard None → IsAct pass after P store new fault → next.failed ≡ true → IsTalk rule role start old after next fresh held faults heard (Some Memory)
take_failed rule role start old pass after k next fresh held faults heard P store new fault t act failed =
    talk_stops rule role start old pass after k next fresh held faults heard t (act_still pass after P store new fault act) (inr failed)

-- why a session ended that said all: by its state, and where it is the store, by an act that met a fault
said_cause : (first pass after now : Known Entry) (P : List Entry) (store new : ReplicaState) (out : Out) (s : SessionData) (end : Option End) (start faults : ℕ) → IsPrefix first.seen pass.seen
    → IsAct pass after P store new (is_store end) → IsStill after now → s.ended ≡ end → HasCauseBy (option_map ending_of end) s first now start faults
said_cause first pass after now P store new out s None start faults p act still is = is
said_cause first pass after now P store new out s (Some ends.Done) start faults p act still is = is
said_cause first pass after now P store new out s (Some (ends.Peer fault)) start faults p act still is = is
said_cause first pass after now P store new out s (Some ends.Full) start faults p act still is = is
said_cause first pass after now P store new out s (Some ends.Store) start faults p act still is = (
  is,
  record {
    point = P;
    added = act.added;
    seat = act.seat;
    act = after.acts;
    rest = still.seen.0;
    began = prefix_then first.seen pass.seen P p act.began;
    ended = sym still.seen.1 ∙ ap (λ (l : List Entry). l ++ still.seen.0) act.ended ∙ append_assoc P (entries_by act.seat after.acts act.added true) still.seen.0;
    own = still.numbered act.seat act.number;
  },
)

-- what stands on the link then
said_put : (end : Option End) (said : List FrameData) (put : List ℕ) → AreSaid said put → IsPutBy (option_map ending_of end) said put
said_put None said put is = is
said_put (Some ends.Done) said put is = is
said_put (Some (ends.Peer fault)) said put is = is
said_put (Some ends.Full) said put is = is
said_put (Some ends.Store) said put is = is

later_rose : (a b c : ℕ) → a ≤ b → Rose b c → Rose a c
later_rose a b c le rose = omega arith

module _ (rule : RuleData) (role : Role) (start : Start) (old : List UpdateId) (pass after now : Known Entry) (k next : Kept) (fresh : Bool) (held held' : Option (List ℕ)) (faults faults' : ℕ) (heard : List FrameData)
    (P : List Entry) (store new : ReplicaState) (frame : CheckedFrame) (out : Out)
    (t : IsTalk rule role start old pass k fresh held faults heard None) (act : IsAct pass after P store new (met_store (Ok out))) (steps : StepsTo store_limits k (updates_of P) frame next out (updates_of after.seen))
    (belongs : BelongsTo store_limits store.history.schema.rule next (updates_of after.seen)) (still : IsStill after now) (quiet : IsQuiet after now) where
  running : k.failed ≡ false
  running = by_failed k.failed refl
    where
      by_failed : (b : Bool) → k.failed ≡ b → k.failed ≡ false
      by_failed false is = is
      by_failed true is = absurd (cc (t.failed is))

  before_step : IsPrefix t.members (updates_of P)
  before_step = prefix_then t.members (updates_of pass.seen) (updates_of P) t.within (updates_prefix pass.seen P act.began)

  the_step : Steps store_limits t.reached (map entry_of (updates_of P)) (frame_of frame) (seen (updates_of after.seen) next) (out_of (map entry_of (updates_of after.seen)) out) (map entry_of (updates_of after.seen))
  the_step =
      let s = t.stands running in
      let same = seen_longer rule k t.members (updates_of P) before_step s.1 ∙ sym s.0 in
      subst (λ (x : SessionData). Steps store_limits x (map entry_of (updates_of P)) (frame_of frame) (seen (updates_of after.seen) next) (out_of (map entry_of (updates_of after.seen)) out) (map entry_of (updates_of after.seen))) same
      (subst (λ (b : Bool). StepsBy b store_limits k (updates_of P) frame next out (updates_of after.seen)) running steps.0)

  ended_as : (seen (updates_of after.seen) next).ended ≡ out.end
  ended_as = (step_has store_limits t.reached (map entry_of (updates_of P)) (seen (updates_of after.seen) next) (out_of (map entry_of (updates_of after.seen)) out) (map entry_of (updates_of after.seen)) t.cause (frame_of frame) the_step).ends

  module _ (ending : Option Ending) (more : List ℕ) (grew : Appends held held' more) (put : IsPutBy ending (t.said ++ frames_of (out_of (map entry_of (updates_of after.seen)) out)) (t.put ++ more))
      (cause : HasCauseBy ending (seen (updates_of after.seen) next) start.first now start.faults faults') (later : faults ≤ faults') where
    talk_next : IsTalk rule role start old now next false held' faults' (heard ++ frame_of frame ∷ []) ending
    talk_next =
        let stilled = still_then pass after now (act_still pass after P store new (is_store out.end) act) still in
        let ruled = (same_replica start.first.seen P rule store t.ruled (prefix_then start.first.seen pass.seen P t.seen_more act.began) act.stood).1 in
        record {
          same_lock = stilled.lock ∙ t.same_lock;
          seen_more = prefix_then start.first.seen pass.seen now.seen t.seen_more stilled.seen;
          numbered = λ n is. stilled.numbered n (t.numbered n is);
          ruled = t.ruled;
          reached = seen (updates_of after.seen) next;
          members = updates_of after.seen;
          said = t.said ++ frames_of (out_of (map entry_of (updates_of after.seen)) out);
          course = hears t.reached (seen (updates_of after.seen) next) t.members (updates_of P) (updates_of after.seen) heard t.said (heard ++ frame_of frame ∷ [])
              (t.said ++ frames_of (out_of (map entry_of (updates_of after.seen)) out)) (frame_of frame) (out_of (map entry_of (updates_of after.seen)) out) t.course before_step the_step refl refl;
          within = updates_prefix after.seen now.seen still.seen;
          stands = λ is. (refl, subst (λ (r : RuleData). Stands r next (updates_of after.seen)) ruled (belongs is).stands);
          put = t.put ++ more;
          grew = Appends-trans start.held held held' t.put more t.grew grew;
          is_put = put;
          cause = cause;
          later = let a = t.later in omega arith;
          is_fresh = heard_some heard;
          failed = λ is. absurd (cc (sym is ∙ steps.1 ∙ running));
          counts = λ other. quiet_added start.first after now (seen (updates_of after.seen) next).gained
              (step_added store_limits start.first pass after P store new (is_store out.end) t.reached (seen (updates_of after.seen) next) (frame_of frame) (out_of (map entry_of (updates_of after.seen)) out)
              (t.counts (λ none. cc (none))) act the_step) still quiet;
        }
      where
        heard_some : (xs : List FrameData) → IsFresh false (xs ++ frame_of frame ∷ [])
        heard_some [] = (frame_of frame, [], refl)
        heard_some (x ∷ xs) = (x, xs ++ frame_of frame ∷ [], refl)

  -- the frame was taken, and what it led to was said or not
  pub take_said : (T : Type 0) (told : Result T Halt) → Says held held' told (frames_of (out_of (map entry_of (updates_of after.seen)) out)) → HasHalt faults faults' told
      → IsTalk rule role start old now next false held' faults' (heard ++ frame_of frame ∷ []) (over_by told out.end)
  take_said T (Ok u) says halt =
      talk_next (option_map ending_of out.end) says.0 says.1 (said_put out.end _ _ (said_append t.said _ t.put says.0 t.is_put says.2))
      (said_cause start.first pass after now P store new out (seen (updates_of after.seen) next) out.end start.faults faults' t.seen_more act still ended_as) halt.later
  take_said T (Err halts.Broken) says halt =
      talk_next _ says.0 says.1 (front_behind t.said _ t.put says.0 t.is_put says.2) (later_rose start.faults faults faults' t.later halt.halted) halt.later
  take_said T (Err halts.Memory) says halt = talk_next _ says.0 says.1 (front_behind t.said _ t.put says.0 t.is_put says.2) tt halt.later

-- ---- an update that is gathered outside of a turn

-- why a session ended so that no store had a part in
own_cause : (first pass : Known Entry) (s : SessionData) (end : Option End) (start faults : ℕ) → end ≢ Some ends.Store → s.ended ≡ end → HasCauseBy (option_map ending_of end) s first pass start faults
own_cause first pass s None start faults other is = is
own_cause first pass s (Some ends.Done) start faults other is = is
own_cause first pass s (Some (ends.Peer fault)) start faults other is = is
own_cause first pass s (Some ends.Full) start faults other is = is
own_cause first pass s (Some ends.Store) start faults other is = absurd (other refl)

module _ (rule : RuleData) (role : Role) (start : Start) (old : List UpdateId) (pass : Known Entry) (k next : Kept) (fresh : Bool) (held : Option (List ℕ)) (faults : ℕ) (heard : List FrameData) (update : List ℕ) (out : Out)
    (t : IsTalk rule role start old pass k fresh held faults heard None) (checked : IsChecked rule update) (gathers : GathersAnywhere k update next out) (stays : StaysWith update k next) where
  alive : k.failed ≡ false
  alive = by_failed k.failed refl
    where
      by_failed : (b : Bool) → k.failed ≡ b → k.failed ≡ false
      by_failed false is = is
      by_failed true is = absurd (cc (t.failed is))

  over_members : List GraphEntry
  over_members = map entry_of t.members

  gathering : Steps store_limits t.reached (map entry_of t.members) (Item (entry_of update)) (seen t.members next) (out_of (map entry_of t.members) out) (map entry_of t.members)
  gathering =
      subst (λ (x : SessionData). Steps store_limits x (map entry_of t.members) (Item (entry_of update)) (seen t.members next) (out_of (map entry_of t.members) out) (map entry_of t.members)) (sym (t.stands alive).0)
      (subst (λ (b : Bool). StepsBy b store_limits k t.members (items.Item update) next out t.members) alive (gathers.steps store_limits t.members).0)

  pub gathered_talk : IsTalk rule role start old pass next false held faults (heard ++ Item (entry_of update) ∷ []) (option_map ending_of out.end)
  gathered_talk = record {
    same_lock = t.same_lock;
    seen_more = t.seen_more;
    numbered = t.numbered;
    ruled = t.ruled;
    reached = seen t.members next;
    members = t.members;
    said = t.said;
    course = hears t.reached (seen t.members next) t.members (t.members) (t.members) heard t.said (heard ++ Item (entry_of update) ∷ []) t.said (Item (entry_of update)) (out_of (map entry_of t.members) out)
        t.course (prefix_self t.members) gathering refl (sym (ap (λ (l : List FrameData). t.said ++ l) (gathers.silent (map entry_of t.members)) ∙ append-nil t.said));
    within = t.within;
    stands = λ is. (refl, stays.stands rule t.members checked (t.stands alive).1 is);
    put = t.put;
    grew = t.grew;
    is_put = said_put out.end t.said t.put t.is_put;
    cause = own_cause start.first pass (seen t.members next) out.end start.faults faults gathers.no_store
        (step_has store_limits t.reached (map entry_of t.members) (seen t.members next) (out_of (map entry_of t.members) out) (map entry_of t.members) t.cause (Item (entry_of update)) gathering).ends;
    later = t.later;
    is_fresh = heard_some heard;
    failed = λ is. absurd (cc (sym is ∙ (gathers.steps store_limits t.members).1 ∙ alive));
    counts = λ other. subst (λ (n : ℕ). HasAdded start.first pass n)
        (same_gained store_limits t.reached (seen t.members next) t.members (Item (entry_of update)) (out_of (map entry_of t.members) out) gathering) (t.counts (λ none. cc (none)));
  }
    where
      heard_some : (xs : List FrameData) → IsFresh false (xs ++ Item (entry_of update) ∷ [])
      heard_some [] = (Item (entry_of update), [], refl)
      heard_some (x ∷ xs) = (x, xs ++ Item (entry_of update) ∷ [], refl)

-- the update is under the rule of the session
pub checked_under : (rule : RuleData) (list longer : List Entry) (update : List ℕ) → IsRuledBy list rule → IsPrefix list longer → IsUnder longer (items.Item update) → IsChecked rule update
checked_under rule list longer update ruled begins under =
    subst (λ (r : RuleData). IsChecked r update) (ruled_once longer under.rule rule under.ruled (ruled_longer list longer rule begins ruled)) under.under

-- a session that belongs to a list belongs to one with the update
pub gathered_belongs : (list : List Entry) (k next : Kept) (update : List ℕ) → BelongsIn list k → IsUnder list (items.Item update) → StaysWith update k next → BelongsIn list next
gathered_belongs list k next update b under stays = record {
  rule = b.rule;
  ruled = b.ruled;
  front = b.front;
  begins = b.begins;
  belongs = stays.belongs store_limits b.rule (updates_of b.front) (checked_under b.rule list list update b.ruled (prefix_self list) under) b.belongs;
}

pub belongs_somewhere : (list : List Entry) (k : Kept) → BelongsIn list k → BelongsSomewhere k
belongs_somewhere list k b = (store_limits, b.rule, updates_of b.front, omega arith, b.belongs)

-- ---- what is remembered of the peer

same_heads : (peers : List Peer) (x : FrameData) (more behind : List FrameData) → heads_for peers ((x ∷ more) ++ behind) ≡ heads_for peers (x ∷ more)
same_heads peers (Hello hello) more behind = refl
same_heads peers OtherVersion more behind = refl
same_heads peers (Item e) more behind = refl
same_heads peers (BadItem why) more behind = refl
same_heads peers (Turn turn) more behind = refl
same_heads peers (NoFrame place) more behind = refl

-- where no first Hello comes, nothing else is remembered
same_recalled : (role : Role) (peers : List Peer) (name : Option (List ℕ)) (fresh : Bool) (frame : FrameData) (heard : List FrameData) → first_node_of role fresh frame ≡ None → IsFresh fresh heard
    → recalled role peers name heard ≡ recalled role peers name (heard ++ frame ∷ [])
same_recalled Initiator peers None fresh frame heard none is = refl
same_recalled Initiator peers (Some name) fresh frame heard none is = refl
same_recalled Responder peers name false frame heard none is =
    ap (heads_for peers) is.2 ∙ sym (same_heads peers is.0 is.1 (frame ∷ [])) ∙ ap (λ (l : List FrameData). heads_for peers (l ++ frame ∷ [])) (sym is.2)
same_recalled Responder peers name true frame heard none is = ap (heads_for peers) is ∙ first_none frame none ∙ ap (λ (l : List FrameData). heads_for peers (l ++ frame ∷ [])) (sym is)
  where
    first_none : (frame : FrameData) → first_node_of Responder true frame ≡ None → [] ≡ heads_for peers (frame ∷ [])
    first_none (Hello hello) none = absurd (cc none)
    first_none OtherVersion none = refl
    first_none (Item e) none = refl
    first_none (BadItem why) none = refl
    first_none (Turn turn) none = refl
    first_none (NoFrame place) none = refl

pub recalls_none : (rule : RuleData) (role : Role) (peers : List Peer) (start : Start) (pass : Known Entry) (k : Kept) (fresh : Bool) (held : Option (List ℕ)) (faults : ℕ) (heard : List FrameData) (frame : FrameData)
    → first_node_of role fresh frame ≡ None → IsTalkWith rule role peers start pass k fresh held faults heard None
    → (old : List UpdateId) × (old ≡ recalled role peers start.name (heard ++ frame ∷ [])) × IsTalk rule role start old pass k fresh held faults heard None
recalls_none rule role peers start pass k fresh held faults heard frame none t = (t.0, t.1 ∙ same_recalled role peers start.name fresh frame heard none t.2.is_fresh, t.2)

-- a responder begins again with what is remembered of this node
pub recalls_node : (rule : RuleData) (role : Role) (peers : List Peer) (start : Start) (pass after : Known Entry) (k next : Kept) (fresh again : Bool) (held : Option (List ℕ)) (faults : ℕ) (heard : List FrameData) (frame : FrameData)
    (node : List ℕ) (out : Out) → first_node_of role fresh frame ≡ Some node → again ≡ true → IsTalkWith rule role peers start pass k fresh held faults heard None → Begins pass after role (heads_under peers node) next out
    → (old : List UpdateId) × (old ≡ recalled role peers start.name (heard ++ frame ∷ [])) × IsTalk rule role start old after next again held faults heard None
recalls_node rule Initiator peers start pass after k next fresh again held faults heard frame node out is e t b = absurd (cc is)
recalls_node rule Responder peers start pass after k next false again held faults heard frame node out is e t b = absurd (cc is)
recalls_node rule Responder peers start pass after k next true again held faults heard (Hello hello) node out is e t b =
    let same : hello.node ≡ node = cc is in
    let empty : heard ≡ [] = t.2.is_fresh in (
      heads_under peers node,
      ap (heads_under peers) (sym same) ∙ ap (λ (l : List FrameData). heads_for peers (l ++ Hello hello ∷ [])) (sym empty),
      subst (λ (x : Bool). IsTalk rule Responder start (heads_under peers node) after next x held faults heard None) (sym e)
          (talk_again rule start t.0 (heads_under peers node) pass after k next true held faults heard out t.2 empty b),
    )
recalls_node rule Responder peers start pass after k next true again held faults heard OtherVersion node out is e t b = absurd (cc is)
recalls_node rule Responder peers start pass after k next true again held faults heard (Item x) node out is e t b = absurd (cc is)
recalls_node rule Responder peers start pass after k next true again held faults heard (BadItem why) node out is e t b = absurd (cc is)
recalls_node rule Responder peers start pass after k next true again held faults heard (Turn turn) node out is e t b = absurd (cc is)
recalls_node rule Responder peers start pass after k next true again held faults heard (NoFrame place) node out is e t b = absurd (cc is)

pub first_is_fresh : (role : Role) (fresh : Bool) (frame : FrameData) (node : List ℕ) → first_node_of role fresh frame ≡ Some node → fresh ≡ true
first_is_fresh Initiator fresh frame node is = absurd (cc is)
first_is_fresh Responder false frame node is = absurd (cc is)
first_is_fresh Responder true frame node is = refl

-- memory ran out, and the session is as it was
pub with_stops : (rule : RuleData) (role : Role) (peers : List Peer) (start : Start) (pass after : Known Entry) (k next : Kept) (fresh again : Bool) (held held' : Option (List ℕ)) (faults faults' : ℕ) (heard : List FrameData)
    → IsTalkWith rule role peers start pass k fresh held faults heard None → IsStill pass after → ((next ≡ k) ⊎ (next.failed ≡ true)) → again ≡ fresh → held' ≡ held → faults' ≡ faults
    → IsTalkWith rule role peers start after next again held' faults' heard (Some Memory)
with_stops rule role peers start pass after k next fresh again held held' faults faults' heard t s or same_fresh same_held same_faults = (
  t.0,
  t.1,
  subst (λ (z : Bool × (Option (List ℕ) × ℕ)). IsTalk rule role start t.0 after next z.0 z.1.0 z.1.1 heard (Some Memory)) (λ i. (sym same_fresh i, (sym same_held i, sym same_faults i)))
      (talk_stops rule role start t.0 pass after k next fresh held faults heard t.2 s or),
)

-- a frame was taken, of a session that had begun again or not
pub heard_checked : (rule : RuleData) (role : Role) (peers : List Peer) (start : Start) (pass mid after : Known Entry) (k next : Kept) (fresh again last : Bool) (held held' : Option (List ℕ)) (faults faults' : ℕ)
    (heard : List FrameData) (frame : FrameData) (ending : Option Ending) (old : List UpdateId)
    → IsTalkWith rule role peers start pass k fresh held faults heard None → IsStill pass mid → IsStill mid after → again ≡ fresh → old ≡ recalled role peers start.name (heard ++ frame ∷ [])
    → (took : (all : List FrameData) × TookOne frame heard ending all next again last held held' faults faults' × IsTalk rule role start old after next last held' faults' all ending)
    → (all : List FrameData) × HeardOne frame heard ending all × IsTalkWith rule role peers start after next last held' faults' all ending
heard_checked rule role peers start pass mid after k next fresh again last held held' faults faults' heard frame ending old t s w fresh_is recalls (all, inl is, talk) =
    (all, inl is, (old, recalls ∙ ap (recalled role peers start.name) (sym is), talk))
heard_checked rule role peers start pass mid after k next fresh again last held held' faults faults' heard frame ending old t s w fresh_is recalls (all, inr (over, same, failed, fresh_last, held_is, faults_is), talk) = (
  heard,
  inr (over, refl),
  subst (λ (e : Option Ending). IsTalkWith rule role peers start after next last held' faults' heard e) (sym over)
      (with_stops rule role peers start pass after k next fresh last held held' faults faults' heard t (still_then pass mid after s w) (inr failed) (fresh_last ∙ fresh_is) held_is faults_is),
)

-- ---- frames in order

-- Of these frames the first were heard, and the others are left as they arrive.
pub record HeardUpTo (rule : RuleData) (frames : List Frame) (left : List CheckedFrame) (heard all : List FrameData) : Type 0 where
  pub front : List Frame
  pub rest : List Frame
  pub more : List FrameData
  pub are : frames ≡ front ++ rest
  pub arrive : AllArrive rule front more
  pub others : AllArrive rule rest (map frame_of left)
  pub is : all ≡ heard ++ more

pub up_to_none : (rule : RuleData) (frames : List Frame) (left : List CheckedFrame) (heard : List FrameData) → AllArrive rule frames (map frame_of left) → HeardUpTo rule frames left heard heard
up_to_none rule frames left heard arrive = record { front = []; rest = frames; more = []; are = refl; arrive = refl; others = arrive; is = sym (append-nil heard) }

abbrev first_or : FrameData → List FrameData → FrameData
first_or one [] = one
first_or one (first ∷ more) = first

-- the frame that arrives first, and those behind it
first_arrives : (rule : RuleData) (frames : List Frame) (one : FrameData) (more : List FrameData) → AllArrive rule frames (one ∷ more)
    → (frame : Frame) × (others : List Frame) × (frames ≡ frame ∷ others) × Arrives rule (said_by frame) one × AllArrive rule others more
first_arrives rule [] one more are = absurd (cc are)
first_arrives rule (frame ∷ frames) one more (first, others, is, arrives, behind) = (
  frame,
  frames,
  refl,
  subst (λ (l : List FrameData). Arrives rule (said_by frame) (first_or one l)) (sym is) arrives,
  subst (λ (l : List FrameData). AllArrive rule frames (drop 1 l)) (sym is) behind,
)

-- one more was heard, and these are left
heard_more : (rule : RuleData) (frames : List Frame) (before rest : List CheckedFrame) (frame : CheckedFrame) (heard all next : List FrameData) → HeardUpTo rule frames before heard all → before ≡ frame ∷ rest
    → next ≡ all ++ frame_of frame ∷ [] → HeardUpTo rule frames rest heard next
heard_more rule frames before rest frame heard all next u is are =
    let first = first_arrives rule u.rest (frame_of frame) (map frame_of rest) (subst (λ (l : List CheckedFrame). AllArrive rule u.rest (map frame_of l)) is u.others) in
    record {
      front = u.front ++ first.0 ∷ [];
      rest = first.1;
      more = u.more ++ frame_of frame ∷ [];
      are = u.are ∙ ap (λ (l : List Frame). u.front ++ l) first.2 ∙ sym (append_assoc u.front (first.0 ∷ []) first.1);
      arrive = arrive_append rule u.front (first.0 ∷ []) u.more (frame_of frame ∷ []) u.arrive (arrive_one rule first.0 (frame_of frame) first.3);
      others = first.4;
      is = are ∙ ap (λ (l : List FrameData). l ++ frame_of frame ∷ []) u.is ∙ append_assoc heard u.more (frame_of frame ∷ []);
    }

-- one more
pub up_to_next : (rule : RuleData) (frames : List Frame) (before rest : List CheckedFrame) (frame : CheckedFrame) (heard all next : List FrameData) (ending : Option Ending) → HeardUpTo rule frames before heard all
    → before ≡ frame ∷ rest → HeardOne (frame_of frame) all ending next → ending ≡ None → HeardUpTo rule frames rest heard next
up_to_next rule frames before rest frame heard all next ending u is (inl are) none = heard_more rule frames before rest frame heard all next u is are
up_to_next rule frames before rest frame heard all next ending u is (inr (over, same)) none = absurd (cc (sym over ∙ none))

-- the session ended, with the last of those that were heard or before the next
front_of : (rule : RuleData) (frames : List Frame) (left : List CheckedFrame) (heard all : List FrameData) (ending : Option Ending) → HeardUpTo rule frames left heard all → (ending ≡ None → ⊥)
    → HeardFront rule frames heard ending all
front_of rule frames left heard all ending u over = (u.front, u.rest, u.more, u.are, u.arrive, u.is, λ none. absurd (over none))

-- the one at which the session ended, or memory ran out before it
pub front_here : (rule : RuleData) (frames : List Frame) (before rest : List CheckedFrame) (frame : CheckedFrame) (heard all next : List FrameData) (ending : Option Ending) → HeardUpTo rule frames before heard all
    → before ≡ frame ∷ rest → HeardOne (frame_of frame) all ending next → (ending ≡ None → ⊥) → HeardFront rule frames heard ending next
front_here rule frames before rest frame heard all next ending u is (inl are) over = front_of rule frames rest heard next ending (heard_more rule frames before rest frame heard all next u is are) over
front_here rule frames before rest frame heard all next ending u is (inr (stops, same)) over =
    subst (λ (l : List FrameData). HeardFront rule frames heard ending l) (sym same) (front_of rule frames before heard all ending u over)

-- memory ran out in the check, and none was heard
pub front_none : (rule : RuleData) (frames : List Frame) (heard : List FrameData) → HeardFront rule frames heard (Some Memory) heard
front_none rule frames heard = ([], frames, [], refl, refl, sym (append-nil heard), λ none. absurd (cc none))

none_arrive : (rule : RuleData) (frames : List Frame) → AllArrive rule frames [] → frames ≡ []
none_arrive rule [] are = refl
none_arrive rule (frame ∷ frames) (first, others, is, arrives, behind) = absurd (cc is)

-- all of them
pub front_done : (rule : RuleData) (frames : List Frame) (left : List CheckedFrame) (heard all : List FrameData) → HeardUpTo rule frames left heard all → left ≡ [] → HeardFront rule frames heard None all
front_done rule frames left heard all u none =
    (u.front, u.rest, u.more, u.are, u.arrive, u.is, λ is. none_arrive rule u.rest (subst (λ (l : List CheckedFrame). AllArrive rule u.rest (map frame_of l)) none u.others))

-- ---- the link meanwhile

-- the link counted faults, and no more was put on it
pub talk_moves : (rule : RuleData) (role : Role) (peers : List Peer) (start : Start) (pass : Known Entry) (k : Kept) (fresh : Bool) (held held' : Option (List ℕ)) (faults faults' : ℕ) (heard : List FrameData)
    → IsTalkWith rule role peers start pass k fresh held faults heard None → held' ≡ held → faults ≤ faults' → IsTalkWith rule role peers start pass k fresh held' faults' heard None
talk_moves rule role peers start pass k fresh held held' faults faults' heard (old, is, t) same later = (
  old,
  is,
  record {
    same_lock = t.same_lock;
    seen_more = t.seen_more;
    numbered = t.numbered;
    ruled = t.ruled;
    reached = t.reached;
    members = t.members;
    said = t.said;
    course = t.course;
    within = t.within;
    stands = t.stands;
    put = t.put;
    grew = subst (λ (o : Option (List ℕ)). Appends start.held o t.put) (sym same) t.grew;
    is_put = t.is_put;
    cause = t.cause;
    later = let a = t.later in omega arith;
    is_fresh = t.is_fresh;
    failed = t.failed;
    counts = t.counts;
  },
)

-- a session that runs ends from outside
talk_over : (rule : RuleData) (role : Role) (peers : List Peer) (start : Start) (pass : Known Entry) (k : Kept) (fresh : Bool) (held : Option (List ℕ)) (faults : ℕ) (heard : List FrameData) (ending : Ending)
    → (t : IsTalkWith rule role peers start pass k fresh held faults heard None) → IsPut ending t.2.said t.2.put → HasCause ending t.2.reached start.first pass start.faults faults
    → IsTalkWith rule role peers start pass k fresh held faults heard (Some ending)
talk_over rule role peers start pass k fresh held faults heard ending (old, is, t) put cause = (
  old,
  is,
  record {
    same_lock = t.same_lock;
    seen_more = t.seen_more;
    numbered = t.numbered;
    ruled = t.ruled;
    reached = t.reached;
    members = t.members;
    said = t.said;
    course = t.course;
    within = t.within;
    stands = t.stands;
    put = t.put;
    grew = t.grew;
    is_put = put;
    cause = cause;
    later = t.later;
    is_fresh = t.is_fresh;
    failed = λ e. absurd (cc (t.failed e));
    counts = λ other. t.counts (λ none. cc (none));
  },
)

-- the link ended
pub talk_cut : (rule : RuleData) (role : Role) (peers : List Peer) (start : Start) (pass : Known Entry) (k : Kept) (fresh : Bool) (held : Option (List ℕ)) (faults : ℕ) (heard : List FrameData)
    → IsTalkWith rule role peers start pass k fresh held faults heard None → IsTalkWith rule role peers start pass k fresh held faults heard (Some Cut)
talk_cut rule role peers start pass k fresh held faults heard t = talk_over rule role peers start pass k fresh held faults heard Cut t t.2.is_put t.2.cause

-- a call of the link failed
pub talk_broken : (rule : RuleData) (role : Role) (peers : List Peer) (start : Start) (pass : Known Entry) (k : Kept) (fresh : Bool) (held : Option (List ℕ)) (faults : ℕ) (heard : List FrameData)
    → IsTalkWith rule role peers start pass k fresh held faults heard None → Rose start.faults faults → IsTalkWith rule role peers start pass k fresh held faults heard (Some Broken)
talk_broken rule role peers start pass k fresh held faults heard t rose =
    talk_over rule role peers start pass k fresh held faults heard Broken t (subst (λ (l : List FrameData). AreFrontOf l t.2.put) (append-nil t.2.said) (front_whole t.2.said [] t.2.put t.2.is_put)) rose

-- memory ran out
pub talk_starved : (rule : RuleData) (role : Role) (peers : List Peer) (start : Start) (pass : Known Entry) (k : Kept) (fresh : Bool) (held : Option (List ℕ)) (faults : ℕ) (heard : List FrameData)
    → IsTalkWith rule role peers start pass k fresh held faults heard None → IsTalkWith rule role peers start pass k fresh held faults heard (Some Memory)
talk_starved rule role peers start pass k fresh held faults heard t =
    talk_over rule role peers start pass k fresh held faults heard Memory t (subst (λ (l : List FrameData). AreFrontOf l t.2.put) (append-nil t.2.said) (front_whole t.2.said [] t.2.put t.2.is_put)) tt

-- the count rose since the beginning too
pub rose_since : (rule : RuleData) (role : Role) (peers : List Peer) (start : Start) (pass : Known Entry) (k : Kept) (fresh : Bool) (held : Option (List ℕ)) (faults faults' : ℕ) (heard : List FrameData)
    → IsTalkWith rule role peers start pass k fresh held faults heard None → Rose faults faults' → Rose start.faults faults'
rose_since rule role peers start pass k fresh held faults faults' heard t rose = later_rose start.faults faults faults' t.2.later rose

last_frame : (xs ys : List FrameData) (x y : FrameData) → xs ++ x ∷ [] ≡ ys ++ y ∷ [] → x ≡ y
last_frame [] [] x y is = cc is
last_frame [] (b ∷ []) x y is = absurd (cc is)
last_frame [] (b ∷ c ∷ ys) x y is = absurd (cc is)
last_frame (a ∷ []) [] x y is = absurd (cc is)
last_frame (a ∷ c ∷ xs) [] x y is = absurd (cc is)
last_frame (a ∷ xs) (b ∷ ys) x y is = last_frame xs ys x y (cc is)

-- a session that heard that there is no frame has ended
none_ends : (limits : Limits) (s next : SessionData) (before after : List GraphEntry) (place : ℕ) (out : OutData) (ended : Option End) → s.ended ≡ ended
    → RulesBy ended limits s before (NoFrame place) next out after → next.ended ≡ None → ⊥
none_ends limits s next before after place out None is t none = cc (sym none ∙ ap (λ (x : SessionData). x.ended) t.0)
none_ends limits s next before after place out (Some e) is t none = cc (sym none ∙ ap (λ (x : SessionData). x.ended) t.0 ∙ is)

no_frame_ends : (limits : Limits) (role : Role) (database node : List ℕ) (old : List UpdateId) (known : List (List ℕ)) (s : SessionData) (members : List (List ℕ)) (heard all said : List FrameData) (place : ℕ)
    → Comes limits role database node old known s members all said → all ≡ heard ++ NoFrame place ∷ [] → s.ended ≡ None → ⊥
no_frame_ends limits role database node old known s members heard all said place (opens s' m' h' d' out is greets none frames knows) are running = absurd (no_more heard (NoFrame place) (sym are ∙ none))
  where
    no_more : (xs : List FrameData) (x : FrameData) → xs ++ x ∷ [] ≡ [] → ⊥
    no_more [] x is = cc
    no_more (y ∷ ys) x is = cc
no_frame_ends limits role database node old known t after heard all answers place (hears s t' members before after' was said all' answers' frame out comes begins step grew says) are running =
    let same : frame ≡ NoFrame place = last_frame was heard frame (NoFrame place) (sym grew ∙ are) in
    none_ends limits s t (map entry_of before) (map entry_of after) place out s.ended refl (subst (λ (f : FrameData). Steps limits s (map entry_of before) f t out (map entry_of after)) same step) running

-- ---- a piece of the link

uncut_read : (ending : Ending) (later : List ℕ) (left : Option (List ℕ)) → is_cut (Some ending) ≡ false → IsAllRead ending later left
uncut_read Done later left is = tt
uncut_read (BadPeer fault) later left is = tt
uncut_read Cut later left is = absurd (cc is)
uncut_read Full later left is = tt
uncut_read Broken later left is = tt
uncut_read Store later left is = tt
uncut_read Memory later left is = tt

nothing_taken : (left after : Option (List ℕ)) → after ≡ left → Consumes left after []
nothing_taken left after same = subst (λ (o : Option (List ℕ)). Consumes left o []) (sym same) (Consumes-nil left)

module _ (rule : RuleData) (before left after : Option (List ℕ)) (fed new : FedData) (frames : List Frame) (heard all : List FrameData) (r : Reads rule before left fed heard) where
  -- frames that a piece completed, of which a front was heard
  reads_fed : (ending : Option Ending) (piece : List ℕ) → Feeds fed new piece frames → Consumes left after piece → is_cut ending ≡ false → HeardFront rule frames heard ending all → ReadsBy ending rule before after new all
  reads_fed None piece feeds took uncut h =
      let whole : frames ≡ h.0 = h.3 ∙ ap (λ (l : List Frame). h.0 ++ l) (h.6 refl) ∙ append-nil h.0 in
      subst (λ (l : List FrameData). Reads rule before after new l) (sym h.5) (reads_on rule before left fed heard r after new piece frames feeds took h.2 (subst (λ (l : List Frame). AllArrive rule l h.2) (sym whole) h.4))
  reads_fed (Some ending) piece feeds took uncut h =
      let first = hears_first rule before left fed heard r after new piece frames feeds took h.0 h.1 h.2 h.3 h.4 in
      record { read = first.0; later = first.1; took = first.2; hears = subst (λ (l : List FrameData). Hears rule first.0 first.1 l) (sym h.5) first.3; all_read = uncut_read ending first.1 after uncut }

-- frames were read, of which a front was heard
pub reads_frames : (rule : RuleData) (before left after : Option (List ℕ)) (fed new : FedData) (frames : List Frame) (heard all : List FrameData) (ending : Option Ending) → Reads rule before left fed heard
    → HearsIn left after fed new frames → is_cut ending ≡ false → HeardFront rule frames heard ending all → ReadsBy ending rule before after new all
reads_frames rule before left after fed new frames heard all ending r (inl (feeds, same)) uncut h = reads_fed rule before left after fed new frames heard all r ending [] feeds (nothing_taken left after same) uncut h
reads_frames rule before left after fed new frames heard all ending r (inr (mid, piece, first, took, feeds)) uncut h =
    let early = subst (λ (l : List FrameData). Reads rule before left mid l) (append-nil heard) (reads_on rule before left fed heard r left mid [] [] first (Consumes-nil left) [] refl) in
    reads_fed rule before left after mid new frames heard all early ending piece feeds took uncut h

-- nothing more was heard of what was read
pub reads_stops : (rule : RuleData) (before left after : Option (List ℕ)) (fed : FedData) (heard : List FrameData) (ending : Ending) (piece : List ℕ) → Reads rule before left fed heard → Consumes left after piece
    → is_cut (Some ending) ≡ false → ReadsTo rule before after heard ending
reads_stops rule before left after fed heard ending piece r took uncut =
    let far = hears_so_far rule before left fed heard r after piece took in
    record { read = far.0; later = far.1; took = far.2; hears = far.3; all_read = uncut_read ending far.1 after uncut }

-- the link ended, and no whole frame is left
pub reads_cut : (rule : RuleData) (before left after : Option (List ℕ)) (fed new : FedData) (heard : List FrameData) → Reads rule before left fed heard → Feeds fed new [] [] → Consumes left after [] → IsAtEnd after
    → ReadsTo rule before after heard Cut
reads_cut rule before left after fed new heard r feeds took at_end = record {
  read = r.front ++ fed.rest;
  later = fed.rest;
  took = subst (Consumes before after) (append-nil (r.front ++ fed.rest)) (Consumes-trans before left after (r.front ++ fed.rest) [] r.took took);
  hears = hears_all rule before left fed heard r;
  all_read = (begun feeds.splits.last, at_end);
}
  where
    same : new.rest ≡ fed.rest
    same = sym (ap (λ (l : List ℕ). l ++ new.rest) feeds.splits.each) ∙ sym feeds.splits.whole ∙ append-nil fed.rest

    begun : (IsBegun new.rest ⊎ IsBroken new.rest) → IsBegun fed.rest
    begun (inl is) = subst IsBegun same is
    begun (inr is) = absurd (feeds.fine (subst IsBroken same is))

-- what follows was no frame
pub reads_none : (rule : RuleData) (role : Role) (peers : List Peer) (start : Start) (pass : Known Entry) (k : Kept) (fresh : Bool) (held : Option (List ℕ)) (faults : ℕ) (before left after : Option (List ℕ)) (fed new : FedData)
    (heard all : List FrameData) (place : ℕ) (ending : Option Ending) → Reads rule before left fed heard → IsBroken fed.rest → place ≡ fed.place → after ≡ left → is_cut ending ≡ false → HeardOne (NoFrame place) heard ending all
    → IsTalkWith rule role peers start pass k fresh held faults all ending → ReadsBy ending rule before after new all
reads_none rule role peers start pass k fresh held faults before left after fed new heard all place None r broken is same uncut (inl are) t =
    absurd (no_frame_ends store_limits role rule.database t.2.ruled.opening.node t.0 (updates_of start.first.seen) t.2.reached t.2.members heard all t.2.said place t.2.course are t.2.cause)
reads_none rule role peers start pass k fresh held faults before left after fed new heard all place None r broken is same uncut (inr none) t = absurd (cc (none.0))
reads_none rule role peers start pass k fresh held faults before left after fed new heard all place (Some ending) r broken is same uncut (inl are) t = record {
  read = r.front ++ fed.rest;
  later = fed.rest;
  took = subst (λ (o : Option (List ℕ)). Consumes before o (r.front ++ fed.rest)) (sym same) r.took;
  hears = subst (λ (l : List FrameData). Hears rule (r.front ++ fed.rest) fed.rest l) (sym are) (hears_none rule before left fed heard r place is broken);
  all_read = uncut_read ending fed.rest after uncut;
}
reads_none rule role peers start pass k fresh held faults before left after fed new heard all place (Some ending) r broken is same uncut (inr none) t =
    subst (λ (l : List FrameData). ReadsTo rule before after l ending) (sym none.1) (reads_stops rule before left after fed heard ending [] r (nothing_taken left after same) uncut)
