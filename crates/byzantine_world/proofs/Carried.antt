-- What a Carry does to what the code of a world shows.
use Rattle.std.proofs.Common.{◌≡◌, inl, inr, ℕ, ◌<◌, Bool, true, false, ◌&&◌, List, ◌∷◌, ◌++◌, length, map, set, All, Option, Some, refl, sym, ap, ap₂, subst, ◌∙◌, length-set}
use Rattle.std.specs.Prelude.{not, option_map, slice_get, slice_set, if◌then◌else◌}
use Rattle.std.specs.VecDeque.{deque_items}
use Rattle.std.proofs.lemmas.List.Elements.{All-tail}
use Rattle.row_check.specs.Checksum.{is_luhn}
use Rattle.schema.specs.Data.{SchemaData}
use Rattle.session_rules.specs.Pair.{frames_of}
use Rattle.session_rules.specs.State.{FrameData, OutData, SessionData}
use Rattle.sync_session.specs.Kept.{IsFrameUnder, frame_of, out_of, seen}
use Rattle.sync_session.specs.declared.checked_frame.CheckedFrame.{CheckedFrame}
use Rattle.update_codec.specs.Parts.{entry_of}
use Rattle.update_model.specs.declared.update_id.UpdateId.{UpdateId}
use Rattle.update_model.specs.Rule.{RuleData}
use Rattle.replica.specs.Replicas.{ReplicaState}
use Rattle.byzantine_world.specs.Codes.{Shows, end_over, is_over_code, list_at, list_of, talk_over}
use Rattle.byzantine_world.specs.Events.{IsStep, cut_where}
use Rattle.byzantine_world.specs.Standing.{AreBothSound, IsSideSound, IsStanding}
use Rattle.byzantine_world.specs.Taking.{HasNothing, ReadsFrame, View, cut_code_if, view_from}
use Rattle.byzantine_world.specs.declared.talk.Both.{Both}
use Rattle.byzantine_world.specs.declared.talk.Side.{Side}
use Rattle.byzantine_world.specs.declared.talk.Talk.{Talk}
use Rattle.byzantine_world.specs.declared.talk.Talk.TheVariants as talks
use Rattle.byzantine_world.proofs.Cutting.{none_steps, over_shown, session_shown}
use Rattle.byzantine_world.proofs.Keeping.{side_cut}
use Rattle.byzantine_world.proofs.Showing.{Grow, cut_side_shown, side_same, side_sound}
use Rattle.byzantine_world.proofs.Talking.{grows, list_now, talk_shows, talk_stands}
use Rattle.world_rules.specs.Happens.{CarriesIn, HappensTo, RemembersOf, TakesOne, can_carry, ending, has_frame, is_broken_off, is_done, is_store, met_in}
use Rattle.world_rules.specs.declared.event.Event.TheVariants as events
use Rattle.world_rules.specs.declared.event.Stepped.TheVariants as stepped
use Rattle.world_rules.specs.Lists.{Extends}
use Rattle.world_rules.specs.Meetings.{EndData, TwoEnds, seen_from}
use Rattle.world_rules.specs.Worlds as worlds
use Rattle.world_rules.specs.Worlds.{SessionOf, SiteData, WorldData, cut_end, cut_if, flat, held_by, is_over, session_at, site_at}
use Rattle.world_rules.proofs.Moving.{sunk_if}
use Rattle.world_rules.proofs.Sites.{SiteMoves, store_moves}

-- ---- a session from the end that reads

-- its ends over the lists
abbrev pub view_over : List SiteData → View → TwoEnds
view_over sites v = record {
  first = v.reader;
  second = v.other;
  a = end_over sites v.reader v.end;
  b = end_over sites v.other v.peer;
  to_a = map frame_of v.arriving;
  to_b = map frame_of v.leaving;
}

abbrev pub two_over : List SiteData → Both → TwoEnds
two_over sites both = record {
  first = both.first;
  second = both.second;
  a = end_over sites both.first both.a;
  b = end_over sites both.second both.b;
  to_a = map frame_of (deque_items both.to_a);
  to_b = map frame_of (deque_items both.to_b);
}

pub view_seen : (sites : List SiteData) (forward : Bool) (both : Both) → seen_from forward (two_over sites both) ≡ view_over sites (view_from forward both)
view_seen sites true both = refl
view_seen sites false both = refl

pub two_seen : (sites : List SiteData) (forward : Bool) (both : Both) → two_over sites both ≡ seen_from forward (view_over sites (view_from forward both))
two_seen sites true both = refl
two_seen sites false both = refl

pub record IsViewSound (rule : RuleData) (sites : List SiteData) (v : View) : Type 0 where
  pub reader : v.reader < length sites
  pub other : v.other < length sites
  pub end : IsSideSound rule (list_at sites v.reader) v.end
  pub peer : IsSideSound rule (list_at sites v.other) v.peer
  pub arriving : All (IsFrameUnder rule) v.arriving
  pub leaving : All (IsFrameUnder rule) v.leaving

pub view_sound : (rule : RuleData) (sites : List SiteData) (forward : Bool) (both : Both) → AreBothSound rule sites both → IsViewSound rule sites (view_from forward both)
view_sound rule sites true both s = record { reader = s.second; other = s.first; end = s.b; peer = s.a; arriving = s.to_b; leaving = s.to_a }
view_sound rule sites false both s = record { reader = s.first; other = s.second; end = s.a; peer = s.b; arriving = s.to_a; leaving = s.to_b }

pub both_sound : (rule : RuleData) (sites : List SiteData) (forward : Bool) (both : Both) → IsViewSound rule sites (view_from forward both) → AreBothSound rule sites both
both_sound rule sites true both s = record { first = s.other; second = s.reader; a = s.peer; b = s.end; to_a = s.leaving; to_b = s.arriving }
both_sound rule sites false both s = record { first = s.reader; second = s.other; a = s.end; b = s.peer; to_a = s.arriving; to_b = s.leaving }

-- what is left of a session whose end read a frame
abbrev after_read : TwoEnds → SessionData → List FrameData → OutData → TwoEnds
after_read m next rest out = record m { a = record m.a { state = next }; b = cut_if (is_broken_off next.ended) m.b; to_a = rest; to_b = m.to_b ++ frames_of out }

ends_same : (f g s t : ℕ) (a c b d : EndData) (x y z u : List FrameData) → f ≡ g → s ≡ t → a ≡ c → b ≡ d → x ≡ y → z ≡ u
    → ◌≡◌ {A = TwoEnds} (record { first = f; second = s; a = a; b = b; to_a = x; to_b = z }) (record { first = g; second = t; a = c; b = d; to_a = y; to_b = u })
ends_same f g s t a c b d x y z u p q h i j k =
    ap₂ (λ (n m : ℕ). record { first = n; second = m; a = a; b = b; to_a = x; to_b = z }) p q
    ∙ ap₂ (λ (n m : EndData). record { first = g; second = t; a = n; b = m; to_a = x; to_b = z }) h i
    ∙ ap₂ (λ (n m : List FrameData). record { first = g; second = t; a = c; b = d; to_a = n; to_b = m }) j k

sound_there : (rule : RuleData) (sites : List SiteData) (q : ℕ) (members : List (List ℕ)) (side : Side) → list_at sites q ≡ members → IsSideSound rule members side → IsSideSound rule (list_at sites q) side
sound_there rule sites q members side is s = subst (λ (xs : List (List ℕ)). IsSideSound rule xs side) (sym is) s

cut_code_sound : (rule : RuleData) (members : List (List ℕ)) (broken : Bool) (side : Side) → IsSideSound rule members side → IsSideSound rule members (cut_code_if broken side)
cut_code_sound rule members true side s = side_cut rule members side s
cut_code_sound rule members false side s = s

cut_code_shown : (rule : RuleData) (sites : List SiteData) (q : ℕ) (broken : Bool) (side : Side) → IsSideSound rule (list_at sites q) side → end_over sites q (cut_code_if broken side) ≡ cut_if broken (end_over sites q side)
cut_code_shown rule sites q true side s = sym (cut_side_shown rule sites q side s)
cut_code_shown rule sites q false side s = refl

-- ---- the end read a frame

module _ (sites : List SiteData) (sessions : List (Option Talk)) (st : IsStanding sites sessions) (v next : View) (site new : SiteData) (failed : Bool) (there : slice_get sites v.reader ≡ Some site)
    (sound : IsViewSound st.schema.rule sites v) (r : ReadsFrame site v new next) where
  abbrev sites' : List SiteData
  sites' = set sites v.reader (sunk_if failed new)

  rule_is : site.store.history.schema.rule ≡ st.schema.rule
  rule_is = ap (λ (x : SchemaData). x.rule) (st.each v.reader site there).0.schema_is

  pub read_extends : Extends st.schema.rule (held_by site) (held_by new)
  read_extends = subst (λ (x : RuleData). Extends x (held_by site) (held_by new)) rule_is r.extends

  end_sound : IsSideSound st.schema.rule (held_by new) next.end
  end_sound = subst (λ (x : RuleData). IsSideSound x (held_by new) next.end) rule_is r.sound

  grow : Grow st.schema.rule sites sites'
  grow = grows sites sessions st v.reader site new failed there read_extends

  low : (q : ℕ) → q < length sites → q < length sites'
  low q h = subst (λ n. q < n) (sym (length-set sites v.reader (sunk_if failed new))) h

  now : list_at sites' v.reader ≡ held_by new
  now = list_now sites sessions st v.reader site new failed there read_extends

  peer_sound : IsSideSound st.schema.rule (list_at sites' v.other) v.peer
  peer_sound = side_sound st.schema.rule sites sites' grow v.other v.peer sound.other sound.peer

  pub next_sound : IsViewSound st.schema.rule sites' next
  next_sound = record {
    reader = subst (λ q. q < length sites') (sym r.reader_is) (low v.reader sound.reader);
    other = subst (λ q. q < length sites') (sym r.other_is) (low v.other sound.other);
    end = subst (λ q. IsSideSound st.schema.rule (list_at sites' q) next.end) (sym r.reader_is) (sound_there st.schema.rule sites' v.reader (held_by new) next.end now end_sound);
    peer = subst (λ q. IsSideSound st.schema.rule (list_at sites' q) next.peer) (sym r.other_is)
        (subst (IsSideSound st.schema.rule (list_at sites' v.other)) (sym r.peer_is) (cut_code_sound st.schema.rule (list_at sites' v.other) (is_broken_off next.end.ended) v.peer peer_sound));
    arriving = All-tail (IsFrameUnder st.schema.rule) r.frame next.arriving (subst (All (IsFrameUnder st.schema.rule)) r.first sound.arriving);
    leaving = subst (λ (x : RuleData). All (IsFrameUnder x) next.leaving) rule_is (r.under (subst (λ (x : RuleData). All (IsFrameUnder x) v.leaving) (sym rule_is) sound.leaving));
  }

  abbrev pub state_now : SessionData
  state_now = seen (held_by new) next.end.session

  abbrev pub out_now : OutData
  out_now = out_of (map entry_of (held_by new)) r.out

  end_shows : end_over sites' next.reader next.end ≡ record { state = state_now; is_cut = v.end.is_cut }
  end_shows =
      ap (λ q. end_over sites' q next.end) r.reader_is ∙ ap (λ (xs : List (List ℕ)). record { state = seen xs next.end.session; is_cut = next.end.is_cut }) now
      ∙ ap (λ (b : Bool). record { state = state_now; is_cut = b }) r.uncut

  peer_shows : end_over sites' next.other next.peer ≡ cut_if (is_broken_off state_now.ended) (end_over sites v.other v.peer)
  peer_shows =
      ap₂ (λ (q : ℕ) (side : Side). end_over sites' q side) r.other_is r.peer_is
      ∙ cut_code_shown st.schema.rule sites' v.other (is_broken_off next.end.ended) v.peer peer_sound
      ∙ ap₂ (λ (b : Bool) (e : EndData). cut_if b e) (ap is_broken_off (sym r.sound.told)) (side_same st.schema.rule sites sites' grow v.other v.peer sound.other sound.peer)

  pub read_shows : view_over sites' next ≡ after_read (view_over sites v) state_now (map frame_of next.arriving) out_now
  read_shows = ends_same _ _ _ _ _ _ _ _ _ _ _ _ r.reader_is r.other_is end_shows peer_shows refl r.leaving_are

  pub read_moves : SiteMoves st.schema site new
  read_moves =
      subst (SiteMoves st.schema site) (sym r.site_is)
      (store_moves st.schema site new.store new.remembered (st.each v.reader site there).0 r.takes.keeps read_extends)

-- ---- Carry

module _ (w : WorldData) (s : ℕ) (forward : Bool) (ends : TwoEnds) (site : SiteData) (store : ReplicaState) (remembered : List (List UpdateId)) (next : SessionData) (out : OutData) (frame : FrameData)
    (rest : List FrameData) where
  abbrev mid_world : WorldData
  mid_world = record w {
    sessions = slice_set w.sessions s (Some (worlds.Both (seen_from forward (record (seen_from forward ends) {
      a = record (seen_from forward ends).a { state = next };
      b = cut_if (is_broken_off next.ended) (seen_from forward ends).b;
      to_a = rest;
      to_b = (seen_from forward ends).to_b ++ frames_of out;
    }))));
    met = w.met ++ met_in w.event frame;
  }

  carries : (m : TwoEnds) → seen_from forward ends ≡ m → session_at w s ≡ Some (worlds.Both ends) → site_at w m.first ≡ Some site → m.to_a ≡ frame ∷ rest → TakesOne site.store m.a.state frame next out store
      → RemembersOf site m.second next remembered
      → CarriesIn w s forward stepped.Done (ending (is_store next.ended) (seen_from forward ends).first (record site { store = store; remembered = remembered }) mid_world)
  carries m e there reads first takes remembers = record {
    ends = ends;
    there = there;
    site = site;
    reads = ap (λ (x : TwoEnds). site_at w x.first) e ∙ reads;
    frame = frame;
    rest = rest;
    next_frame = ap (λ (x : TwoEnds). x.to_a) e ∙ first;
    next = next;
    out = out;
    store = store;
    takes = subst (λ (x : TwoEnds). TakesOne site.store x.a.state frame next out store) (sym e) takes;
    remembered = remembered;
    remembers = subst (λ (x : TwoEnds). RemembersOf site x.second next remembered) (sym e) remembers;
    done = refl;
    is = refl;
  }

-- what is found of a session of two
pub both_shown : (sites : List SiteData) (sessions : List (Option Talk)) (w : WorldData) (s : ℕ) (both : Both) → Shows sites sessions w → slice_get sessions s ≡ Some (Some (talks.Both both))
    → session_at w s ≡ Some (worlds.Both (two_over sites both))
both_shown sites sessions w s both shows is =
    session_shown sites sessions w s shows ∙ ap (λ (o : Option (Option Talk)). flat (option_map (option_map (talk_over sites)) o)) is

pub reads_one : (rule : RuleData) (sites : List SiteData) (forward : Bool) (both : Both) → AreBothSound rule sites both
    → can_carry forward (Some (worlds.Both (two_over sites both))) ≡ has_frame (map frame_of (view_from forward both).arriving) && not (is_over_code (view_from forward both).end)
reads_one rule sites forward both sound =
    ap (λ (m : TwoEnds). has_frame m.to_a && not (is_over m.a)) (view_seen sites forward both)
    ∙ ap (λ (b : Bool). has_frame (map frame_of (view_from forward both).arriving) && not b)
    (over_shown rule sites (view_from forward both).reader (view_from forward both).end (view_sound rule sites forward both sound).end)

pub carry_steps : (sites : List SiteData) (sessions : List (Option Talk)) (st : IsStanding sites sessions) (s : ℕ) (forward : Bool) (both both' : Both) (site new : SiteData) (failed : Bool)
    → slice_get sessions s ≡ Some (Some (talks.Both both)) → AreBothSound st.schema.rule sites both → slice_get sites (view_from forward both).reader ≡ Some site
    → ReadsFrame site (view_from forward both) new (view_from forward both') → is_store (view_from forward both').end.ended ≡ failed
    → IsStep is_luhn sites sessions (events.Carry s forward) stepped.Done (set sites (view_from forward both).reader (sunk_if failed new))
    (cut_where failed (view_from forward both).reader (set sessions s (Some (talks.Both both'))))
carry_steps sites sessions st s forward both both' site new failed at sound there r fails w shows =
    let v = view_from forward both in
    let next = view_from forward both' in
    let seen_sound = view_sound st.schema.rule sites forward both sound in
    let sites' = set sites v.reader (sunk_if failed new) in
    let ends = two_over sites both in
    let state = seen (held_by new) next.end.session in
    let out = out_of (map entry_of (held_by new)) r.out in
    let rest = map frame_of next.arriving in
    let mid = mid_world w s forward ends site new.store new.remembered state out (frame_of r.frame) rest in
    let found = both_shown sites sessions w s both shows at in
    let can : can_carry forward (session_at w s) ≡ true =
    ap (can_carry forward) found ∙ reads_one st.schema.rule sites forward both sound
    ∙ ap₂ (λ (xs : List CheckedFrame) (b : Bool). has_frame (map frame_of xs) && not b) r.first r.runs in
    let held : list_at sites v.reader ≡ held_by site = ap list_of there in
    let carried = carries w s forward ends site new.store new.remembered state out (frame_of r.frame) rest (view_over sites v) (view_seen sites forward both) found
    (ap (λ (xs : List SiteData). slice_get xs v.reader) shows.sites_are ∙ there) (ap (map frame_of) r.first)
    (subst (λ (xs : List (List ℕ)). TakesOne site.store (seen xs v.end.session) (frame_of r.frame) state out new.store) (sym held) r.takes) r.remembers in
    let same : ending (is_store state.ended) (seen_from forward ends).first (record site { store = new.store; remembered = new.remembered }) mid ≡ ending failed v.reader new mid =
    ap (λ (b : Bool). ending b (seen_from forward ends).first (record site { store = new.store; remembered = new.remembered }) mid) (ap is_store r.sound.told ∙ fails)
    ∙ ap₂ (λ (k : ℕ) (x : SiteData). ending failed k x mid) (ap (λ (m : TwoEnds). m.first) (view_seen sites forward both)) (sym r.site_is) in
    let inner : seen_from forward (after_read (seen_from forward ends) state rest out) ≡ two_over sites' both' =
    ap (λ (m : TwoEnds). seen_from forward (after_read m state rest out)) (view_seen sites forward both)
    ∙ ap (seen_from forward) (sym (read_shows sites sessions st v next site new failed there seen_sound r)) ∙ sym (two_seen sites' forward both') in (
      ending failed v.reader new mid,
      subst (λ (b : Bool). HappensTo b is_luhn w (events.Carry s forward) stepped.Done (ending failed v.reader new mid)) (sym can)
          (subst (CarriesIn w s forward stepped.Done) same carried),
      talk_shows sites sessions st v.reader site new failed there (read_extends sites sessions st v next site new failed there seen_sound r) s (talks.Both both')
          (both_sound st.schema.rule sites' forward both' (next_sound sites sessions st v next site new failed there seen_sound r)) w mid shows refl
          (ap (λ (m : TwoEnds). set w.sessions s (Some (worlds.Both m))) inner),
    )

remembered_many : (site : SiteData) (other : ℕ) (next : SessionData) (remembered : List (List UpdateId)) → RemembersOf site other next remembered → length remembered ≡ length site.remembered
remembered_many site other next remembered h = ap length h.is ∙ by_end (is_done next.ended)
  where
    by_end : (b : Bool) → length (if b then slice_set site.remembered other h.ids else site.remembered) ≡ length site.remembered
    by_end true = length-set site.remembered other h.ids
    by_end false = refl

pub carry_stands : (sites : List SiteData) (sessions : List (Option Talk)) (st : IsStanding sites sessions) (s : ℕ) (forward : Bool) (both both' : Both) (site new : SiteData) (failed : Bool)
    → AreBothSound st.schema.rule sites both → slice_get sites (view_from forward both).reader ≡ Some site → ReadsFrame site (view_from forward both) new (view_from forward both')
    → IsStanding (set sites (view_from forward both).reader (sunk_if failed new)) (cut_where failed (view_from forward both).reader (set sessions s (Some (talks.Both both'))))
carry_stands sites sessions st s forward both both' site new failed sound there r =
    let v = view_from forward both in
    let next = view_from forward both' in
    let seen_sound = view_sound st.schema.rule sites forward both sound in
    talk_stands sites sessions st v.reader site new failed there s (talks.Both both') (read_moves sites sessions st v next site new failed there seen_sound r)
    (remembered_many site v.other (seen (held_by new) next.end.session) new.remembered r.remembers)
    (both_sound st.schema.rule (set sites v.reader (sunk_if failed new)) forward both' (next_sound sites sessions st v next site new failed there seen_sound r))

-- ---- nothing is read

nothing_read : (v : View) → HasNothing v → (has_frame (map frame_of v.arriving) && not (is_over_code v.end)) ≡ false
nothing_read v (inl over) = ap (λ (b : Bool). has_frame (map frame_of v.arriving) && not b) over ∙ and_false (has_frame (map frame_of v.arriving))
  where
    and_false : (b : Bool) → (b && false) ≡ false
    and_false true = refl
    and_false false = refl
nothing_read v (inr none) = ap (λ (xs : List CheckedFrame). has_frame (map frame_of xs) && not (is_over_code v.end)) none

pub none_read : (sites : List SiteData) (sessions : List (Option Talk)) (st : IsStanding sites sessions) (s : ℕ) (forward : Bool) (both : Both) → slice_get sessions s ≡ Some (Some (talks.Both both))
    → AreBothSound st.schema.rule sites both → HasNothing (view_from forward both) → IsStep is_luhn sites sessions (events.Carry s forward) stepped.NoSuch sites sessions
none_read sites sessions st s forward both at sound nothing =
    none_steps sites sessions (events.Carry s forward)
    (λ w shows. ap (can_carry forward) (both_shown sites sessions w s both shows at) ∙ reads_one st.schema.rule sites forward both sound ∙ nothing_read (view_from forward both) nothing)
