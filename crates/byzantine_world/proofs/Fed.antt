-- What a Feed does to what the code of a world shows.
use Rattle.std.proofs.Common.{◌≡◌, inl, inr, ℕ, ◌+◌, ◌-◌, ◌^◌, ◌<◌, Bool, true, false, ◌||◌, List, [], ◌∷◌, ◌++◌, length, map, set, All, Option, Some, None, Result, Ok, Err, refl, sym, ap, ap₂, subst, ◌∙◌, arith, append-nil, append_assoc, length-set}
use Rattle.std.specs.Prelude.{IfOk, OnOk, is_some, min, not, option_map, slice_get, slice_set}
use Rattle.std.proofs.lemmas.List.{map-append}
use Rattle.std.proofs.lemmas.List.Elements.{All-head, All-tail}
use Rattle.row_check.specs.Checksum.{is_luhn}
use Rattle.link_frames.specs.Hearing.{AllArrive}
use Rattle.replica.specs.Holding.{keeps_itself, keeps_on}
use Rattle.schema.specs.Data.{SchemaData}
use Rattle.session_rules.specs.State.{FrameData, NoFrame, OutData, SessionData}
use Rattle.session_rules.specs.Steps.{Steps, StepsBy}
use Rattle.session_rules.specs.declared.end.End.{End}
use Rattle.sync_frames.specs.Fed.{FedData, Feeds}
use Rattle.sync_frames.specs.Stream.{AreSpelled, IsBroken, Splits}
use Rattle.sync_frames.specs.declared.frame.Frame.{Frame}
use Rattle.sync_session.specs.Kept.{IsFrameUnder, frame_of, out_of, seen}
use Rattle.sync_session.specs.declared.checked_frame.CheckedFrame.{CheckedFrame}
use Rattle.sync_session.specs.declared.checked_frame.CheckedFrame.TheVariants as checked
use Rattle.sync_session.specs.declared.out.Out.{Out}
use Rattle.update_check.specs.Members.{AreMembers}
use Rattle.update_codec.specs.Parts.{entry_of}
use Rattle.update_model.specs.Batch.{Limits, store_limits}
use Rattle.update_model.specs.Entry.{Entry}
use Rattle.update_model.specs.Rule.{RuleData}
use Rattle.byzantine_world.specs.Codes.{Shows, end_over, is_over_code, list_at, list_of, talk_over}
use Rattle.byzantine_world.specs.Events.{IsStep, cut_where}
use Rattle.byzantine_world.specs.Standing.{IsLiarSound, IsSideSound, IsStanding}
use Rattle.byzantine_world.specs.Taking.{HearsLiar, TakesFrame, TakesFrames, liar_in}
use Rattle.byzantine_world.specs.declared.talk.Liar.{Liar}
use Rattle.byzantine_world.specs.declared.talk.Side.{Side}
use Rattle.byzantine_world.specs.declared.talk.Talk.{Talk}
use Rattle.byzantine_world.specs.declared.talk.Talk.TheVariants as talks
use Rattle.byzantine_world.proofs.Cutting.{over_shown, session_shown}
use Rattle.byzantine_world.proofs.Talking.{list_now, talk_shows, talk_stands}
use Rattle.world_rules.specs.Happens.{FeedsIn, HappensTo, TakesAll, all_met, can_feed, ending, is_store, none, one_more}
use Rattle.world_rules.specs.declared.event.Event.TheVariants as events
use Rattle.world_rules.specs.declared.event.Stepped.TheVariants as stepped
use Rattle.world_rules.specs.Lists.{Extends}
use Rattle.world_rules.specs.Worlds as worlds
use Rattle.world_rules.specs.Worlds.{SessionOf, SiteData, WorldData, flat, held_by, session_at}
use Rattle.world_rules.proofs.Moving.{sunk_if}
use Rattle.world_rules.proofs.Sites.{SiteMoves, same_extends, store_moves}

-- ---- frames one after another

All-behind : {X : Type 0} (P : X → Type 0) (xs ys : List X) → All P (xs ++ ys) → All P ys
All-behind P [] ys all = all
All-behind P (x ∷ xs) ys all = All-behind P xs ys (All-tail P x (xs ++ ys) all)

extends_then : (rule : RuleData) (a b c : List (List ℕ)) → Extends rule a b → Extends rule b c → Extends rule a c
extends_then rule a b c e f = record { more = e.more ++ f.more; begins = f.begins ∙ ap (λ (xs : List (List ℕ)). xs ++ f.more) e.begins ∙ append_assoc a e.more f.more; members = f.members }

-- none yet
pub takes_none : (site : SiteData) (side : Side) → IsSideSound site.store.history.schema.rule (held_by site) side → AreMembers site.store.history.schema.rule (held_by site) → TakesFrames site side [] site side
takes_none site side sound are = record {
  takes = none (seen (held_by site) side.session) site.store refl refl;
  keeps = keeps_itself site.store;
  site_is = refl;
  extends = same_extends site.store.history.schema.rule (held_by site) are;
  sound = sound;
  uncut = refl;
}

-- one more
pub takes_more : (site mid new : SiteData) (side between next : Side) (frames : List CheckedFrame) (frame : CheckedFrame) (out : Out) → TakesFrames site side frames mid between
    → TakesFrame mid between frame out new next → TakesFrames site side (frames ++ frame ∷ []) new next
takes_more site mid new side between next frames frame out t f =
    let same : mid.store.history.schema.rule ≡ site.store.history.schema.rule = ap (λ (x : SchemaData). x.rule) t.keeps.store.schema in
    record {
      takes = subst (λ (xs : List FrameData). TakesAll site.store (seen (held_by site) side.session) xs (seen (held_by new) next.session) new.store) (sym (map-append frame_of frames (frame ∷ [])))
          (one_more (map frame_of frames) (frame_of frame) (seen (held_by mid) between.session) (seen (held_by new) next.session) mid.store new.store (out_of (map entry_of (held_by new)) out) t.takes f.takes);
      keeps = keeps_on site.store mid.store new.store t.keeps f.takes.keeps;
      site_is = f.site_is ∙ ap (λ (x : SiteData). record x { store = new.store }) t.site_is;
      extends = extends_then site.store.history.schema.rule (held_by site) (held_by mid) (held_by new) t.extends (subst (λ (x : RuleData). Extends x (held_by mid) (held_by new)) same f.extends);
      sound = subst (λ (x : RuleData). IsSideSound x (held_by new) next) same f.sound;
      uncut = f.uncut ∙ t.uncut;
    }

-- ---- what is left is no frame

-- a frame that is none ends an end
none_ends : (limits : Limits) (s : SessionData) (before : List Entry) (place : ℕ) (next : SessionData) (out : OutData) (after : List Entry) → Steps limits s before (NoFrame place) next out after
    → next.ended ≡ None → ⊥
none_ends limits s before place next out after h is = by_ended s.ended refl h
  where
    by_ended : (ended : Option End) → s.ended ≡ ended → StepsBy ended limits s before (NoFrame place) next out after → ⊥
    by_ended None e k = let f : next.ended ≡ _ = ap (λ (x : SessionData). x.ended) k.0 in let g = sym f ∙ is in cc
    by_ended (Some other) e k = let f : next.ended ≡ s.ended = ap (λ (x : SessionData). x.ended) k.0 in let g : Some other ≡ None = sym e ∙ sym f ∙ is in cc

-- A stream splits into frames and a rest in one way.
abbrev pub OneSplit : Type 0
OneSplit = (stream : List ℕ) (frames others : List Frame) (rest other : List ℕ) → Splits stream frames rest → Splits stream others other → (frames ≡ others) × (rest ≡ other)

-- bytes that were split are split no further
fed_again : OneSplit → (old mid new : FedData) (bytes : List ℕ) (frames more : List Frame) → Feeds old mid bytes frames → Feeds mid new [] more → new ≡ mid
fed_again one_split old mid new bytes frames more f g =
    let again : Splits mid.rest more new.rest = subst (λ (xs : List ℕ). Splits xs more new.rest) (append-nil mid.rest) g.splits in
    let here : Splits mid.rest [] mid.rest = record { front = []; each = refl; whole = refl; last = f.splits.last } in
    let one = one_split mid.rest more [] new.rest mid.rest again here in
    let front : length g.splits.front ≡ 0 = no_front more g.splits.front one.0 g.splits.each in
    let place : new.place ≡ mid.place = g.place ∙ ap (λ n. min (mid.place + n) (2 ^ 64 - 1)) front ∙ capped in
    ap₂ (λ (p : ℕ) (r : List ℕ). record { place = p; rest = r }) place one.1
  where
    no_front : (fs : List Frame) (front : List ℕ) → fs ≡ [] → AreSpelled fs front → length front ≡ 0
    no_front [] front e each = ap length each
    no_front (x ∷ xs) front e each = absurd cc

    capped : min (mid.place + 0) (2 ^ 64 - 1) ≡ mid.place
    capped = omega (arith, f.place)

-- the decoder has what is the beginning of a frame
pub hears_whole : OneSplit → (site new : SiteData) (liar : Liar) (next : Side) (bytes : List ℕ) (mid last : FedData) (frames more : List Frame) (heard : List CheckedFrame)
    → Feeds liar.frames mid bytes frames → AllArrive site.store.history.schema.rule frames (map frame_of heard) → TakesFrames site liar.end heard new next → Feeds mid last [] more
    → HearsLiar site liar bytes new (record liar { end = next; frames = last })
hears_whole one_split site new liar next bytes mid last frames more heard f arrive t g =
    let same = fed_again one_split liar.frames mid last bytes frames more f g in
    let fine : IsBroken last.rest → ⊥ = λ broken. g.fine (subst (λ (x : FedData). IsBroken x.rest) same broken) in
    record {
      heard = map frame_of heard;
      hears = record {
        frames = frames;
        arrived = map frame_of heard;
        feeds = subst (λ (x : FedData). Feeds liar.frames x bytes frames) (sym same) f;
        arrive = arrive;
        are = inl (refl, fine);
      };
      takes = t.takes;
      keeps = t.keeps;
      site_is = t.site_is;
      extends = t.extends;
      sound = t.sound;
      uncut = t.uncut;
      first = refl;
      fine = λ runs. fine;
    }

-- the decoder has what is no frame
pub hears_broken : (site mid_site new : SiteData) (liar : Liar) (between next : Side) (bytes : List ℕ) (mid : FedData) (frames : List Frame) (heard : List CheckedFrame) (out : Out)
    → Feeds liar.frames mid bytes frames → AllArrive site.store.history.schema.rule frames (map frame_of heard) → TakesFrames site liar.end heard mid_site between
    → IsBroken mid.rest → TakesFrame mid_site between (checked.BadFrame mid.place) out new next → HearsLiar site liar bytes new (record liar { end = next; frames = mid })
hears_broken site mid_site new liar between next bytes mid frames heard out f arrive t broken b =
    let all = takes_more site mid_site new liar.end between next heard (checked.BadFrame mid.place) out t b in
    record {
      heard = map frame_of (heard ++ checked.BadFrame mid.place ∷ []);
      hears = record {
        frames = frames;
        arrived = map frame_of heard;
        feeds = f;
        arrive = arrive;
        are = inr (map-append frame_of heard (checked.BadFrame mid.place ∷ []), broken);
      };
      takes = all.takes;
      keeps = all.keeps;
      site_is = all.site_is;
      extends = all.extends;
      sound = all.sound;
      uncut = all.uncut;
      first = refl;
      fine = λ runs _. ended_is_over next.ended next.is_cut
          (λ none_is. none_ends store_limits (seen (held_by mid_site) between.session) (map entry_of (held_by mid_site)) mid.place (seen (held_by new) next.session) (out_of (map entry_of (held_by new)) out)
          (map entry_of (held_by new)) b.takes.step (b.sound.told ∙ none_is)) runs;
    }
  where
    ended_is_over : (ended : Option End) (was : Bool) → (ended ≡ None → ⊥) → (is_some ended || was) ≡ false → ⊥
    ended_is_over None was h e = h refl
    ended_is_over (Some end) was h e = absurd cc

-- ---- Feed

liar_shown : (sites : List SiteData) (sessions : List (Option Talk)) (w : WorldData) (s : ℕ) (liar : Liar) → Shows sites sessions w → slice_get sessions s ≡ Some (Some (talks.Liar liar))
    → session_at w s ≡ Some (talk_over sites (talks.Liar liar))
liar_shown sites sessions w s liar shows is =
    session_shown sites sessions w s shows ∙ ap (λ (o : Option (Option Talk)). flat (option_map (option_map (talk_over sites)) o)) is

module _ (sites : List SiteData) (sessions : List (Option Talk)) (st : IsStanding sites sessions) (liar next : Liar) (site new : SiteData) (failed : Bool) (bytes : List ℕ)
    (there : slice_get sites liar.first ≡ Some site) (sound : IsLiarSound st.schema.rule sites liar) (h : HearsLiar site liar bytes new next) where
  rule_is : site.store.history.schema.rule ≡ st.schema.rule
  rule_is = ap (λ (x : SchemaData). x.rule) (st.each liar.first site there).0.schema_is

  pub hear_extends : Extends st.schema.rule (held_by site) (held_by new)
  hear_extends = subst (λ (x : RuleData). Extends x (held_by site) (held_by new)) rule_is h.extends

  now : list_at (set sites liar.first (sunk_if failed new)) liar.first ≡ held_by new
  now = list_now sites sessions st liar.first site new failed there hear_extends

  pub hear_sound : IsLiarSound st.schema.rule (set sites liar.first (sunk_if failed new)) next
  hear_sound = record {
    first = subst (λ q. q < length (set sites liar.first (sunk_if failed new))) (sym h.first)
        (subst (λ n. liar.first < n) (sym (length-set sites liar.first (sunk_if failed new))) sound.first);
    end = subst (λ q. IsSideSound st.schema.rule (list_at (set sites liar.first (sunk_if failed new)) q) next.end) (sym h.first)
        (subst (λ (xs : List (List ℕ)). IsSideSound st.schema.rule xs next.end) (sym now) (subst (λ (x : RuleData). IsSideSound x (held_by new) next.end) rule_is h.sound));
    fine = h.fine;
  }

  pub hear_moves : SiteMoves st.schema site new
  hear_moves = subst (SiteMoves st.schema site) (sym h.site_is) (store_moves st.schema site new.store site.remembered (st.each liar.first site there).0 h.keeps hear_extends)

  pub hear_shows : talk_over (set sites liar.first (sunk_if failed new)) (talks.Liar next)
      ≡ worlds.Liar (record { first = liar.first; end = record { state = seen (held_by new) next.end.session; is_cut = liar.end.is_cut }; fed = next.frames })
  hear_shows =
      ap (λ q. worlds.Liar (record { first = q; end = end_over (set sites liar.first (sunk_if failed new)) q next.end; fed = next.frames })) h.first
      ∙ ap (λ (xs : List (List ℕ)). worlds.Liar (record { first = liar.first; end = record { state = seen xs next.end.session; is_cut = next.end.is_cut }; fed = next.frames })) now
      ∙ ap (λ (b : Bool). worlds.Liar (record { first = liar.first; end = record { state = seen (held_by new) next.end.session; is_cut = b }; fed = next.frames })) h.uncut

pub feed_steps : (sites : List SiteData) (sessions : List (Option Talk)) (st : IsStanding sites sessions) (s : ℕ) (liar next : Liar) (site new : SiteData) (failed : Bool) (bytes : List ℕ)
    → slice_get sessions s ≡ Some (Some (talks.Liar liar)) → IsLiarSound st.schema.rule sites liar → is_over_code liar.end ≡ false → slice_get sites liar.first ≡ Some site
    → HearsLiar site liar bytes new next → is_store next.end.ended ≡ failed
    → IsStep is_luhn sites sessions (events.Feed s bytes) stepped.Done (set sites liar.first (sunk_if failed new)) (cut_where failed liar.first (set sessions s (Some (talks.Liar next))))
feed_steps sites sessions st s liar next site new failed bytes at sound runs there h fails w shows =
    let found = liar_shown sites sessions w s liar shows at in
    let one : worlds.OneEnd = record { first = liar.first; end = end_over sites liar.first liar.end; fed = liar.frames } in
    let state = seen (held_by new) next.end.session in
    let can : can_feed (session_at w s) ≡ true = ap can_feed found ∙ ap not (over_shown st.schema.rule sites liar.first liar.end sound.end ∙ runs) in
    let mid : WorldData = record w {
      sessions = slice_set w.sessions s (Some (worlds.Liar (record one { end = record one.end { state = state }; fed = next.frames })));
      met = w.met ++ all_met w.event h.heard;
    } in
    let held : list_at sites liar.first ≡ held_by site = ap list_of there in
    let same : ending (is_store state.ended) liar.first (record site { store = new.store }) mid ≡ ending failed liar.first new mid =
    ap₂ (λ (b : Bool) (x : SiteData). ending b liar.first x mid) (ap is_store h.sound.told ∙ fails) (sym h.site_is) in
    let happens : FeedsIn w s bytes stepped.Done (ending (is_store state.ended) liar.first (record site { store = new.store }) mid) = record {
      one = one;
      there = found;
      site = site;
      reads = ap (λ (xs : List SiteData). slice_get xs liar.first) shows.sites_are ∙ there;
      fed = next.frames;
      heard = h.heard;
      hears = h.hears;
      next = state;
      store = new.store;
      takes = subst (λ (xs : List (List ℕ)). TakesAll site.store (seen xs liar.end.session) h.heard state new.store) (sym held) h.takes;
      done = refl;
      is = refl;
    } in (
      ending failed liar.first new mid,
      subst (λ (b : Bool). HappensTo b is_luhn w (events.Feed s bytes) stepped.Done (ending failed liar.first new mid)) (sym can) (subst (FeedsIn w s bytes stepped.Done) same happens),
      talk_shows sites sessions st liar.first site new failed there (hear_extends sites sessions st liar next site new failed bytes there sound h) s (talks.Liar next)
          (hear_sound sites sessions st liar next site new failed bytes there sound h) w mid shows refl
          (ap (λ (m : SessionOf). set w.sessions s (Some m)) (sym (hear_shows sites sessions st liar next site new failed bytes there sound h))),
    )

pub feed_stands : (sites : List SiteData) (sessions : List (Option Talk)) (st : IsStanding sites sessions) (s : ℕ) (liar next : Liar) (site new : SiteData) (failed : Bool) (bytes : List ℕ)
    → IsLiarSound st.schema.rule sites liar → slice_get sites liar.first ≡ Some site → HearsLiar site liar bytes new next
    → IsStanding (set sites liar.first (sunk_if failed new)) (cut_where failed liar.first (set sessions s (Some (talks.Liar next))))
feed_stands sites sessions st s liar next site new failed bytes sound there h =
    talk_stands sites sessions st liar.first site new failed there s (talks.Liar next) (hear_moves sites sessions st liar next site new failed bytes there sound h)
    (ap (λ (x : SiteData). length x.remembered) h.site_is) (hear_sound sites sessions st liar next site new failed bytes there sound h)

-- ---- while frames are taken

module _ (site new : SiteData) (side next : Side) (frames : List CheckedFrame) (t : TakesFrames site side frames new next) where
  still : site.store.history.schema.rule ≡ new.store.history.schema.rule
  still = ap (λ (x : SchemaData). x.rule) (sym t.keeps.store.schema)

  pub taken_sound : IsSideSound new.store.history.schema.rule (held_by new) next
  taken_sound = subst (λ (x : RuleData). IsSideSound x (held_by new) next) still t.sound

  pub taken_members : AreMembers new.store.history.schema.rule (held_by new)
  taken_members = subst (λ (x : RuleData). AreMembers x (held_by new)) still t.extends.members

  pub taken_under : (all rest : List CheckedFrame) (frame : CheckedFrame) → All (IsFrameUnder site.store.history.schema.rule) all → all ≡ frames ++ frame ∷ rest → IsFrameUnder new.store.history.schema.rule frame
  taken_under all rest frame under is =
      subst (λ (x : RuleData). IsFrameUnder x frame) still
      (All-head (IsFrameUnder site.store.history.schema.rule) frame rest
      (All-behind (IsFrameUnder site.store.history.schema.rule) frames (frame ∷ rest) (subst (All (IsFrameUnder site.store.history.schema.rule)) is under)))

  pub all_taken : (all rest : List CheckedFrame) → all ≡ frames ++ rest → rest ≡ [] → TakesFrames site side all new next
  all_taken all rest is empty = subst (λ (xs : List CheckedFrame). TakesFrames site side xs new next) (sym (is ∙ ap (λ (xs : List CheckedFrame). frames ++ xs) empty ∙ append-nil frames)) t

-- what was heard, of the values that are left
pub hears_as : {T E : Type 0} (site : SiteData) (liar : Liar) (bytes : List ℕ) (new left : SiteData) (next kept : Liar) (result : Result T E) → left ≡ new → kept ≡ next → HearsLiar site liar bytes new next
    → OnOk result (HearsLiar site liar bytes left kept)
hears_as site liar bytes new left next kept (Ok x) a b h = subst (λ (s : SiteData). HearsLiar site liar bytes s kept) (sym a) (subst (HearsLiar site liar bytes new) (sym b) h)
hears_as site liar bytes new left next kept (Err e) a b h = tt

-- what was heard in the session of a number
pub heard_of : {E : Type 0} (site new : SiteData) (talk : Option Talk) (liar next : Liar) (bytes : List ℕ) (result : Result (Option End) E) → liar_in talk ≡ Some liar → OnOk result (HearsLiar site liar bytes new next)
    → IfOk result (λ end. end ≡ next.end.ended)
    → IfOk result (λ end. (other : Liar) → liar_in talk ≡ Some other → (left : Liar) × (◌≡◌ {A = Option Talk} (Some (talks.Liar next)) (Some (talks.Liar left))) × HearsLiar site other bytes new left × (end ≡ left.end.ended))
heard_of site new talk liar next bytes (Ok end) here hears ended = λ other is.
    let one : Some liar ≡ Some other = sym here ∙ is in
    let same : liar ≡ other = cc in (next, refl, subst (λ (l : Liar). HearsLiar site l bytes new next) same hears, ended)
heard_of site new talk liar next bytes (Err e) here hears ended = tt
