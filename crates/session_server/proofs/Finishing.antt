-- How a session over a link begins and what it comes to.
use Rattle.std.proofs.Common.{◌≡◌, ◌≢◌, ◌⊎◌, ◌≤◌, inl, inr, ℕ, Bool, true, false, List, [], map, Option, Some, None, Result, Ok, Err, refl, sym, ap, subst, ◌∙◌, append-nil}
use Rattle.std.specs.Prelude.{option_map}
use Rattle.std.specs.List.{list_all}
use Rattle.std.proofs.lemmas.List.{map-append}
use Rattle.std.specs.Io.KnownBytes.{Appends}
use Rattle.update_codec.specs.Parts.{entry_of}
use Rattle.update_model.specs.declared.update_id.UpdateId.{UpdateId}
use Rattle.update_model.specs.Batch.{store_limits}
use Rattle.update_model.specs.Entry.{Entry as GraphEntry}
use Rattle.shared_replica.specs.declared.entry.Entry.{Entry}
use Rattle.update_model.specs.Graph.{holds}
use Rattle.update_model.specs.Rule.{RuleData}
use Rattle.session_rules.specs.Course.{Greets, Remembers, opened}
use Rattle.session_rules.specs.Pair.{frames_of, hello_frames}
use Rattle.session_rules.specs.State.{FrameData, SessionData, OutData}
use Rattle.session_rules.specs.Steps.{heads_in}
use Rattle.session_rules.specs.declared.role.Role.{Role}
use Rattle.session_rules.specs.declared.role.Role.TheVariants.{Initiator, Responder}
use Rattle.sync_session.specs.Kept.{Kept, hello_of, out_of, seen}
use Rattle.sync_session.specs.Starts.{RemembersBy, node_of}
use Rattle.sync_session.specs.declared.out.Out.{Out}
use Rattle.peer_memory.specs.declared.peer.Peer.{Peer}
use Rattle.turn_lock.specs.Seats.{Known}
use Rattle.shared_replica.specs.Entries.{entries_by, updates_of}
use Rattle.shared_replica.specs.Sessions.{IsRuledBy}
use Rattle.link_frames.specs.Course.{Comes, opens}
use Rattle.link_frames.specs.Hearing.{AreFrontOf}
use Rattle.link_frames.specs.Saying.{HasCause as HasHalt, Says}
use Rattle.link_frames.specs.declared.saying.Halt.{Halt}
use Rattle.link_frames.specs.declared.saying.Halt.TheVariants as halts
use Rattle.link_frames.proofs.Coming.{comes_has}
use Rattle.link_frames.proofs.Having.{held_more}
use Rattle.link_frames.proofs.Sentences.{front_whole}
use Rattle.session_server.specs.declared.ending.Ending.{Ending}
use Rattle.session_server.specs.declared.ending.Ending.TheVariants.{Done, Peer as BadPeer, Cut, Full, Broken, Store, Memory}
use Rattle.session_server.specs.declared.served.Served.{Served}
use Rattle.session_server.specs.Sessions.{Counts, HasAdded, HasCause, IsAllRead, IsPut, IsSession, IsToRemember, Runs}
use Rattle.session_server.specs.Talks.{Begins, Concludes, HasCauseBy, IsPutBy, IsTalk, IsTalkWith, IsToKeep, ReadsTo, Start, is_cut, over_by}
use Rattle.session_server.proofs.Gaining.{begun_added}
use Rattle.session_server.proofs.Passing.{act_still, updates_prefix}
use Rattle.std.proofs.KnownBytes.{Consumes-nil}
use Rattle.link_frames.proofs.Pieces.{reads_nothing}
use Rattle.session_server.proofs.Talking.{begun_stands, reads_stops, same_replica}

-- ---- the beginning

-- what is handed out at the beginning is the Hello alone
greeting_frames : (role : Role) (s : SessionData) (out : OutData) → Greets role s out → frames_of out ≡ hello_frames out.hello
greeting_frames Initiator s out g = ap frames_of g.2 ∙ sym (ap (λ (o : OutData). hello_frames o.hello) g.2)
greeting_frames Responder s out g = ap frames_of g ∙ sym (ap (λ (o : OutData). hello_frames o.hello) g)

not_ended : (role : Role) (database node : List ℕ) (old : List UpdateId) (list : List GraphEntry) → (opened role database node old list).ended ≡ None
not_ended Initiator database node old list = refl
not_ended Responder database node old list = refl

none_gained : (role : Role) (database node : List ℕ) (old : List UpdateId) (list : List GraphEntry) → (opened role database node old list).gained ≡ 0
none_gained Initiator database node old list = refl
none_gained Responder database node old list = refl

module _ (rule : RuleData) (role : Role) (pass after : Known Entry) (name : Option (List ℕ)) (old : List UpdateId) (k : Kept) (out : Out) (held held' : Option (List ℕ)) (faults faults' : ℕ) (b : Begins pass after role old k out)
    (ruled : IsRuledBy pass.seen rule) where
  abbrev pub start : Start
  start = record { first = pass; name = name; held = held; faults = faults }

  abbrev reached : SessionData
  reached = seen (updates_of b.point) k

  same : (b.store.node ≡ ruled.opening.node) × (b.store.history.schema.rule ≡ rule)
  same = same_replica pass.seen b.point rule b.store ruled b.act.began b.act.stood

  reached_is : reached ≡ opened role rule.database ruled.opening.node old (map entry_of (updates_of b.point))
  reached_is = b.starts.state ∙ ap (λ (d : List ℕ). opened role d b.store.node old (map entry_of (updates_of b.point))) (ap (λ (r : RuleData). r.database) same.1)
      ∙ ap (λ (n : List ℕ). opened role rule.database n old (map entry_of (updates_of b.point))) same.0

  begin_talk : (ending : Option Ending) (more : List ℕ) → Appends held held' more → IsPutBy ending (hello_frames (option_map hello_of out.hello)) more → HasCauseBy ending reached pass after faults faults' → faults ≤ faults'
      → IsTalk rule role start old after k true held' faults' [] ending
  begin_talk ending more grew put cause later =
      let still = act_still pass after b.point b.store b.store false b.act in record {
        same_lock = still.lock;
        seen_more = still.seen;
        numbered = still.numbered;
        ruled = ruled;
        reached = reached;
        members = updates_of b.point;
        said = hello_frames (option_map hello_of out.hello);
        course = opens reached (updates_of b.point) [] (hello_frames (option_map hello_of out.hello)) (out_of (map entry_of (updates_of b.point)) out) reached_is b.starts.greets refl
            (sym (greeting_frames role reached (out_of (map entry_of (updates_of b.point)) out) b.starts.greets)) (updates_prefix pass.seen b.point b.act.began);
        within = updates_prefix b.point after.seen (entries_by b.act.seat after.acts b.act.added false, sym b.act.ended);
        stands = λ e. (refl, begun_stands rule pass after role old k out b same.1);
        put = more;
        grew = grew;
        is_put = put;
        cause = cause;
        later = later;
        is_fresh = refl;
        failed = λ e. absurd (cc (sym b.starts.failed ∙ e));
        counts = λ other. subst (λ (n : ℕ). HasAdded pass after n) (sym (ap (λ (s : SessionData). s.gained) reached_is ∙ none_gained role rule.database ruled.opening.node old (map entry_of (updates_of b.point))))
            (begun_added pass after b.point b.store false b.act);
      }

  -- the Hello was said or not
  pub begun_talk : (T : Type 0) (told : Result T Halt) → Says held held' told (hello_frames (option_map hello_of out.hello)) → HasHalt faults faults' told → IsTalk rule role start old after k true held' faults' [] (over_by told None)
  begun_talk T (Ok t) says halt = begin_talk None says.0 says.1 says.2 (ap (λ (s : SessionData). s.ended) reached_is ∙ not_ended role rule.database ruled.opening.node old (map entry_of (updates_of b.point))) halt.later
  begun_talk T (Err halts.Broken) says halt = begin_talk (Some Broken) says.0 says.1 says.2 halt.halted halt.later
  begun_talk T (Err halts.Memory) says halt = begin_talk (Some Memory) says.0 says.1 says.2 tt halt.later

-- ---- the end

put_front : (ending : Ending) (said : List FrameData) (put : List ℕ) → IsPut ending said put → AreFrontOf said put
put_front Done said put is = subst (λ (l : List FrameData). AreFrontOf l put) (append-nil said) (front_whole said [] put is)
put_front (BadPeer fault) said put is = subst (λ (l : List FrameData). AreFrontOf l put) (append-nil said) (front_whole said [] put is)
put_front Cut said put is = subst (λ (l : List FrameData). AreFrontOf l put) (append-nil said) (front_whole said [] put is)
put_front Full said put is = subst (λ (l : List FrameData). AreFrontOf l put) (append-nil said) (front_whole said [] put is)
put_front Broken said put is = is
put_front Store said put is = subst (λ (l : List FrameData). AreFrontOf l put) (append-nil said) (front_whole said [] put is)
put_front Memory said put is = is

module _ (rule : RuleData) (role : Role) (peers : List Peer) (s : Start) (after : Known Entry) (k : Kept) (fresh : Bool) (left left' held' : Option (List ℕ)) (faults' : ℕ) (all : List FrameData) (ending : Ending) (served : Served)
    (t : IsTalkWith rule role peers s after k fresh held' faults' all (Some ending)) (r : ReadsTo rule left left' all ending) (c : Concludes k ending served) where
  abbrev talk : IsTalk rule role s t.0 after k fresh held' faults' all (Some ending)
  talk = t.2

  -- where memory did not run out, the session has its state
  alive : served.ending ≢ Memory → k.failed ≡ false
  alive some = by_failed k.failed refl
    where
      ended : (served.ending ≡ ending) ⊎ (served.ending ≡ Memory) → ending ≡ Memory → ⊥
      ended (inl same) is = some (same ∙ is)
      ended (inr same) is = some same

      by_failed : (b : Bool) → k.failed ≡ b → k.failed ≡ false
      by_failed false is = is
      by_failed true is = absurd (ended c.ends (cc (talk.failed is)))

  counted : served.ending ≢ Memory → Counts talk.reached served
  counted some =
      let same = (talk.stands (alive some)).0 in
      record {
        gained = c.gained ∙ sym (ap (λ (x : SessionData). x.gained) same);
        turns = c.turns ∙ sym (ap (λ (x : SessionData). x.turns) same);
        peer = c.peer ∙ ap (option_map node_of) (sym (ap (λ (x : SessionData). x.peer) same));
      }

  added : served.ending ≢ Memory → HasAdded s.first after served.gained
  added some = subst (λ (n : ℕ). HasAdded s.first after n) (sym (counted some).gained) (talk.counts (λ is. starved c.ends (cc (is))))
    where
      starved : (served.ending ≡ ending) ⊎ (served.ending ≡ Memory) → ending ≡ Memory → ⊥
      starved (inl same) is = some (same ∙ is)
      starved (inr same) is = some same

  remembered : (e : Ending) → served.ending ≡ e → IsToKeep e k served.heads → IsToRemember e talk.reached served.heads
  remembered Done is keep =
      let some = alive (λ m. cc (sym is ∙ m)) in
      let stands = talk.stands some in
      subst (λ (x : SessionData). Remembers x served.heads) (sym stands.0) (subst (λ (b : Bool). RemembersBy b k served.heads) some keep rule talk.members stands.1)
  remembered (BadPeer fault) is keep = keep
  remembered Cut is keep = keep
  remembered Full is keep = keep
  remembered Broken is keep = keep
  remembered Store is keep = keep
  remembered Memory is keep = keep

  all_held : served.ending ≡ Done → list_all (holds (map entry_of (updates_of after.seen))) (heads_in talk.reached.peer) ≡ true
  all_held is =
      let done = ended_done c.ends in
      let has = comes_has store_limits role rule.database talk.ruled.opening.node t.0 (updates_of s.first.seen) talk.reached talk.members all talk.said talk.course in
      held_more (map entry_of talk.members) (map entry_of talk.within.0) (map entry_of (updates_of after.seen)) talk.reached.peer (sym (ap (map entry_of) talk.within.1) ∙ map-append entry_of talk.members talk.within.0)
      (has.done (subst (λ (e : Ending). HasCause e talk.reached s.first after s.faults faults') done talk.cause))
    where
      ended_done : (served.ending ≡ ending) ⊎ (served.ending ≡ Memory) → ending ≡ Done
      ended_done (inl same) = sym same ∙ is
      ended_done (inr same) = absurd (cc (sym is ∙ same))

  by_ending : (P : Ending → Type 0) → P ending → P Memory → P served.ending
  by_ending P here there = either c.ends
    where
      either : (served.ending ≡ ending) ⊎ (served.ending ≡ Memory) → P served.ending
      either (inl same) = subst P (sym same) here
      either (inr same) = subst P (sym same) there

  pub runs : Runs rule role peers s.name s.first after left left' s.held held' s.faults faults' served
  runs = record {
    same_lock = talk.same_lock;
    seen = talk.seen_more;
    ruled = talk.ruled;
    reached = talk.reached;
    members = talk.members;
    heard = all;
    said = talk.said;
    course = subst (λ (ids : List UpdateId). Comes store_limits role rule.database talk.ruled.opening.node ids (updates_of s.first.seen) talk.reached talk.members all talk.said) t.1 talk.course;
    within = talk.within;
    read = r.read;
    later = r.later;
    took = r.took;
    hears = r.hears;
    all_read = by_ending (λ e. IsAllRead e r.later left') r.all_read tt;
    put = talk.put;
    grew = talk.grew;
    is_put = by_ending (λ e. IsPut e talk.said talk.put) talk.is_put (put_front ending talk.said talk.put talk.is_put);
    cause = by_ending (λ e. HasCause e talk.reached s.first after s.faults faults') talk.cause tt;
    counts = counted;
    gained = added;
    remembers = remembered served.ending refl c.heads;
    held_all = all_held;
  }

-- what the call answers, of a session that ended so
pub session_ended : (rule : RuleData) (role : Role) (peers : List Peer) (s : Start) (after last : Known Entry) (k : Kept) (fresh : Bool) (left now left' held' : Option (List ℕ)) (faults' : ℕ) (all : List FrameData) (ending : Ending) (served : Served)
    → IsTalkWith rule role peers s after k fresh held' faults' all (Some ending) → ReadsTo rule now left' all ending → now ≡ left → Concludes k ending served → last ≡ after
    → IsSession rule role peers s.name s.first last left left' s.held held' s.faults faults' served
session_ended rule role peers s after last k fresh left now left' held' faults' all ending served t r same c is =
    inl (subst (λ (p : Known Entry). Runs rule role peers s.name s.first p left left' s.held held' s.faults faults' served) (sym is)
    (runs rule role peers s after k fresh left left' held' faults' all ending served t (subst (λ (o : Option (List ℕ)). ReadsTo rule o left' all ending) same r) c))

-- a session that ended before anything was read
pub reads_nothing_to : (rule : RuleData) (left : Option (List ℕ)) (ending : Ending) → is_cut (Some ending) ≡ false → ReadsTo rule left left [] ending
reads_nothing_to rule left ending uncut = reads_stops rule left left left _ [] ending [] (reads_nothing rule left) (Consumes-nil left) uncut
