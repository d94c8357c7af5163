-- A frame to an end of a session.
use Rattle.std.proofs.Common.{◌≡◌, ℕ, ◌+◌, ◌<◌, ◌≤◌, true, false, List, [], ◌∷◌, ◌++◌, length, map, take, get_or, All, Option, Some, None, refl, sym, ap, subst, ◌∙◌, append_assoc, append-nil}
use Rattle.std.proofs.lemmas.List.{map-append, take_more}
use Rattle.std.proofs.lemmas.Option.{get_or_from_slice_get, slice_get-map, slice_get_past, slice_get_within}
use Rattle.std.specs.List.{cons_option}
use Rattle.std.specs.Prelude.{filter_map, if◌then◌else◌, is_some, option_map, slice_get, slice_set}
use Rattle.std.specs.List.{AllByRecursion}
use Rattle.std.proofs.lemmas.List.Elements.{All-append, All-cons, All-nil, filter_map-append, recursion_from_All}
use Rattle.session_rules.specs.declared.end.End.{End}
use Rattle.replica.specs.Replicas.{ReplicaState}
use Rattle.session_rules.specs.Pair.{frames_of}
use Rattle.session_rules.specs.State.{FrameData, Item, OutData, SessionData}
use Rattle.session_rules.specs.Steps.{Steps, StepsBy}
use Rattle.sync_session.specs.Kept.{BelongsTo, IsFrameUnder, frame_of, out_of, seen}
use Rattle.sync_session.specs.declared.checked_frame.CheckedFrame.{CheckedFrame}
use Rattle.sync_session.specs.declared.checked_frame.CheckedFrame.TheVariants as checked
use Rattle.sync_session.specs.declared.out.Out.{Out}
use Rattle.update_check.specs.Members.{AreMembers}
use Rattle.update_check.specs.Signed.{IsChecked}
use Rattle.update_codec.specs.Parts.{entry_of}
use Rattle.update_model.specs.Batch.{Limits, store_limits}
use Rattle.update_model.specs.Entry.{Entry}
use Rattle.update_model.specs.declared.update_id.UpdateId.{UpdateId}
use Rattle.update_model.specs.Rule.{RuleData}
use Rattle.byzantine_world.specs.Standing.{IsSideSound}
use Rattle.byzantine_world.specs.Codes.{is_over_code}
use Rattle.byzantine_world.specs.Taking.{ReadsFrame, TakesFrame, View, cut_code_if}
use Rattle.byzantine_world.specs.declared.talk.Side.{Side}
use Rattle.world_rules.specs.Happens.{RemembersOf, TakesOne, is_broken_off, is_done}
use Rattle.world_rules.specs.Lists.{Extends}
use Rattle.world_rules.specs.Worlds.{SiteData, held_by}
use Rattle.world_rules.proofs.Extending.{IsEntryOf, steps_extend}

-- an end that has ended stays as it ended
pub ended_stays : (limits : Limits) (s : SessionData) (before : List Entry) (frame : FrameData) (next : SessionData) (out : OutData) (after : List Entry) (ending : End) → s.ended ≡ Some ending
    → Steps limits s before frame next out after → next.ended ≡ Some ending
ended_stays limits s before frame next out after ending is h = by_ended s.ended refl h
  where
    by_ended : (ended : Option End) → s.ended ≡ ended → StepsBy ended limits s before frame next out after → next.ended ≡ Some ending
    by_ended None e k = absurd cc
    by_ended (Some other) e k = ap (λ (x : SessionData). x.ended) k.0 ∙ is

each_entry : (rule : RuleData) (us : List (List ℕ)) → AllByRecursion (IsChecked rule) us → AllByRecursion (IsEntryOf rule) (map entry_of us)
each_entry rule [] all = tt
each_entry rule (u ∷ us) all = ((all.0, refl), each_entry rule us all.1)

-- updates under a rule, in two lists
pub entries_under : (rule : RuleData) (us vs : List (List ℕ)) → AllByRecursion (IsChecked rule) (us ++ vs) → AllByRecursion (IsEntryOf rule) (map entry_of us ++ map entry_of vs)
entries_under rule [] vs all = each_entry rule vs all
entries_under rule (u ∷ us) vs all = ((all.0, refl), entries_under rule us vs all.1)

-- an end took a frame
pub takes_frame : (site new : SiteData) (side next : Side) (frame : CheckedFrame) (out : Out) → IsSideSound site.store.history.schema.rule (held_by site) side
    → AreMembers site.store.history.schema.rule (held_by site)
    → TakesOne site.store (seen (held_by site) side.session) (frame_of frame) (seen (held_by new) next.session) (out_of (map entry_of (held_by new)) out) new.store
    → BelongsTo store_limits site.store.history.schema.rule next.session (held_by new) → next.session.failed ≡ false → next.session.state.ended ≡ next.ended → next.is_cut ≡ side.is_cut
    → new ≡ record site { store = new.store } → TakesFrame site side frame out new next
takes_frame site new side next frame out sound are takes belongs runs told uncut is =
    let rule = site.store.history.schema.rule in
    let under = recursion_from_All (IsChecked rule) _ (sound.belongs sound.runs).stands.under in
    record {
      takes = takes;
      site_is = is;
      extends = steps_extend rule (seen (held_by site) side.session) (seen (held_by new) next.session) (held_by site) (held_by new) takes.keeps.added (frame_of frame) (out_of (map entry_of (held_by new)) out) are
          (entries_under rule side.session.pending.waiting side.session.pending.gathered under) takes.keeps.members takes.step;
      sound = record { belongs = belongs; runs = runs; told = told };
      uncut = uncut;
    }

-- how an end that had ended is known to have ended
pub told_still : (site new : SiteData) (side next : Side) (frame : CheckedFrame) (out : Out) (ending : End) → IsSideSound site.store.history.schema.rule (held_by site) side → side.ended ≡ Some ending
    → TakesOne site.store (seen (held_by site) side.session) (frame_of frame) (seen (held_by new) next.session) (out_of (map entry_of (held_by new)) out) new.store
    → next.session.state.ended ≡ Some ending
told_still site new side next frame out ending sound is takes =
    ended_stays store_limits (seen (held_by site) side.session) (map entry_of (held_by site)) (frame_of frame) (seen (held_by new) next.session) (out_of (map entry_of (held_by new)) out)
    (map entry_of (held_by new)) ending (sound.told ∙ is) takes.step

-- ---- options

pub none_is : {X : Type 0} (o : Option X) → is_some o ≡ false → o ≡ None
none_is None e = refl
none_is (Some x) e = absurd cc

pub some_is : {X : Type 0} (o : Option X) → is_some o ≡ true → (x : X) × (o ≡ Some x)
some_is None e = absurd cc
some_is (Some x) e = (x, refl)

-- ---- a frame is read

-- the end took a frame, its replica remembered, and the frames that it answers were put
pub reads_frame : (site mid new : SiteData) (v next : View) (frame : CheckedFrame) (out : Out) → is_over_code v.end ≡ false → v.arriving ≡ frame ∷ next.arriving → TakesFrame site v.end frame out mid next.end
    → RemembersOf mid v.other (seen (held_by mid) next.end.session) new.remembered → new ≡ record mid { remembered = new.remembered } → next.reader ≡ v.reader → next.other ≡ v.other
    → next.peer ≡ cut_code_if (is_broken_off next.end.ended) v.peer → map frame_of next.leaving ≡ map frame_of v.leaving ++ frames_of (out_of (map entry_of (held_by new)) out)
    → ((rule : RuleData) → AreMembers rule (held_by new) → All (IsFrameUnder rule) v.leaving → All (IsFrameUnder rule) next.leaving) → ReadsFrame site v new next
reads_frame site mid new v next frame out runs first t remembers is reader other peer leaving under =
    let rule = site.store.history.schema.rule in
    let store : mid.store ≡ new.store = ap (λ (x : SiteData). x.store) (sym is) in
    let h = subst (λ (s : ReplicaState). RemembersOf mid v.other (seen s.history.members next.end.session) new.remembered) store remembers in
    record {
      runs = runs;
      frame = frame;
      first = first;
      out = out;
      takes = subst (λ (s : ReplicaState). TakesOne site.store (seen (held_by site) v.end.session) (frame_of frame) (seen s.history.members next.end.session) (out_of (map entry_of s.history.members) out) s) store t.takes;
      remembers = record {
        ids = h.ids;
        remembers = h.remembers;
        is = h.is ∙ ap (λ (xs : List (List UpdateId)). if is_done next.end.session.state.ended then slice_set xs v.other h.ids else xs) (ap (λ (x : SiteData). x.remembered) t.site_is);
      };
      site_is = is ∙ ap (λ (x : SiteData). record x { remembered = new.remembered }) t.site_is ∙ ap (λ (s : ReplicaState). record site { store = s; remembered = new.remembered }) store;
      extends = subst (λ (s : ReplicaState). Extends rule (held_by site) s.history.members) store t.extends;
      sound = subst (λ (s : ReplicaState). IsSideSound rule s.history.members next.end) store t.sound;
      uncut = t.uncut;
      reader_is = reader;
      other_is = other;
      peer_is = peer;
      leaving_are = leaving;
      under = λ all. under rule (subst (λ (s : ReplicaState). AreMembers rule s.history.members) store t.extends.members) all;
    }

-- ---- frames are put on their way

pub pushed_under : (rule : RuleData) (was now : List CheckedFrame) (frame : CheckedFrame) → All (IsFrameUnder rule) was → IsFrameUnder rule frame → now ≡ was ++ frame ∷ [] → All (IsFrameUnder rule) now
pushed_under rule was now frame all here is =
    subst (All (IsFrameUnder rule)) (sym is) (All-append (IsFrameUnder rule) was (frame ∷ []) all (All-cons (IsFrameUnder rule) frame [] here (All-nil (IsFrameUnder rule))))

-- a member is under the rule
pub member_under : (rule : RuleData) (members : List (List ℕ)) (p : ℕ) (update : List ℕ) → AreMembers rule members → slice_get members p ≡ Some update → IsFrameUnder rule (checked.Item update)
member_under rule members p update are is = subst (IsChecked rule) (get_or_from_slice_get members p update update is) (are.checked p update (slice_get_within members p update is))

sent_more : (graph : List Entry) (ps : List ℕ) (i d : ℕ) → i < length ps
    → map Item (filter_map (slice_get graph) (take (i + 1) ps)) ≡ map Item (filter_map (slice_get graph) (take i ps)) ++ map Item (filter_map (slice_get graph) (get_or ps i d ∷ []))
sent_more graph ps i d low =
    ap (λ (xs : List ℕ). map Item (filter_map (slice_get graph) xs)) (take_more ps i d low)
    ∙ ap (map Item) (filter_map-append (slice_get graph) (take i ps) (get_or ps i d ∷ []))
    ∙ map-append Item (filter_map (slice_get graph) (take i ps)) (filter_map (slice_get graph) (get_or ps i d ∷ []))

one_sent : (members : List (List ℕ)) (p : ℕ) (found : Option (List ℕ)) → slice_get members p ≡ found → filter_map (slice_get (map entry_of members)) (p ∷ []) ≡ cons_option (option_map entry_of found) []
one_sent members p found is = ap (λ (o : Option Entry). cons_option o []) (slice_get-map entry_of members p ∙ ap (option_map entry_of) is)

-- the update at a position is put
pub put_more : (old now later : List CheckedFrame) (members : List (List ℕ)) (ps : List ℕ) (i d : ℕ) (update : List ℕ) → i < length ps
    → map frame_of now ≡ map frame_of old ++ map Item (filter_map (slice_get (map entry_of members)) (take i ps)) → slice_get members (get_or ps i d) ≡ Some update → later ≡ now ++ checked.Item update ∷ []
    → map frame_of later ≡ map frame_of old ++ map Item (filter_map (slice_get (map entry_of members)) (take (i + 1) ps))
put_more old now later members ps i d update low was there is =
    let graph = map entry_of members in
    let front = map Item (filter_map (slice_get graph) (take i ps)) in
    ap (map frame_of) is ∙ map-append frame_of now (checked.Item update ∷ []) ∙ ap (λ (xs : List FrameData). xs ++ Item (entry_of update) ∷ []) was
    ∙ append_assoc (map frame_of old) front (Item (entry_of update) ∷ [])
    ∙ ap (λ (xs : List FrameData). map frame_of old ++ xs)
    (ap (λ (xs : List Entry). front ++ map Item xs) (sym (one_sent members (get_or ps i d) (Some update) there)) ∙ sym (sent_more graph ps i d low))

-- nothing is at a position past the end
pub skip_more : (old now : List CheckedFrame) (members : List (List ℕ)) (ps : List ℕ) (i d : ℕ) → i < length ps
    → map frame_of now ≡ map frame_of old ++ map Item (filter_map (slice_get (map entry_of members)) (take i ps)) → length members ≤ get_or ps i d
    → map frame_of now ≡ map frame_of old ++ map Item (filter_map (slice_get (map entry_of members)) (take (i + 1) ps))
skip_more old now members ps i d low was past =
    let graph = map entry_of members in
    let front = map Item (filter_map (slice_get graph) (take i ps)) in
    was ∙ ap (λ (xs : List FrameData). map frame_of old ++ xs)
    (sym (append-nil front) ∙ ap (λ (xs : List Entry). front ++ map Item xs) (sym (one_sent members (get_or ps i d) None (slice_get_past members (get_or ps i d) past))) ∙ sym (sent_more graph ps i d low))
