-- What an event of one session leaves.
use Rattle.std.proofs.Common.{◌≡◌, ℕ, zero, suc, ◌<◌, Bool, true, false, List, [], ◌∷◌, length, map, set, get_or, All, Option, Some, None, refl, sym, ap, subst, ◌∙◌}
use Rattle.std.specs.Prelude.{if◌then◌else◌, not, option_map, slice_get}
use Rattle.std.proofs.lemmas.List.{map-set}
use Rattle.std.proofs.lemmas.Option.{get_or_from_slice_get, slice_get-get_or}
use Rattle.row_check.specs.Checksum.{is_luhn}
use Rattle.schema.specs.Data.{SchemaData}
use Rattle.session_rules.specs.declared.end.End.{End}
use Rattle.update_check.specs.Members.{AreMembers}
use Rattle.update_model.specs.Rule.{RuleData}
use Rattle.sync_session.specs.Kept.{IsFrameUnder}
use Rattle.byzantine_world.specs.Codes.{cut_talk, is_over_code, is_over_talk, list_of, talk_over}
use Rattle.byzantine_world.specs.Events.{Cuts, CutsBy, IsStep, cut_where}
use Rattle.byzantine_world.specs.Standing.{AreBothSound, IsLiarSound, IsSideSound, IsStanding, IsTalkSound}
use Rattle.byzantine_world.specs.Taking.{CanHear, CanRead, HasNothing, HearsLiar, Reads, ReadsFrame, View, both_in, hearer_in, liar_in, reader_in, view_from}
use Rattle.byzantine_world.specs.declared.carrying.Read.{Read}
use Rattle.byzantine_world.specs.declared.carrying.Read.TheVariants.{Nothing, Frame}
use Rattle.byzantine_world.specs.declared.talk.Both.{Both}
use Rattle.byzantine_world.specs.declared.talk.Liar.{Liar}
use Rattle.byzantine_world.specs.declared.talk.Talk.{Talk}
use Rattle.byzantine_world.specs.declared.talk.Talk.TheVariants as talks
use Rattle.byzantine_world.proofs.Carried.{IsViewSound, both_sound, carry_stands, carry_steps, none_read, two_seen, view_over, view_sound}
use Rattle.byzantine_world.proofs.Cutting.{can_cut_shown, cut_steps, none_steps, session_shown}
use Rattle.byzantine_world.proofs.Fed.{feed_stands, feed_steps}
use Rattle.byzantine_world.proofs.Keeping.{talk_cut}
use Rattle.byzantine_world.proofs.Started.{all_at}
use Rattle.byzantine_world.proofs.Starting.{start_stands}
use Rattle.world_rules.specs.Happens.{can_cut, is_store}
use Rattle.world_rules.specs.Meetings.{TwoEnds, seen_from}
use Rattle.world_rules.specs.declared.event.Event.TheVariants as events
use Rattle.world_rules.specs.declared.event.Stepped.{Stepped}
use Rattle.world_rules.specs.declared.event.Stepped.TheVariants as stepped
use Rattle.world_rules.specs.Worlds as worlds
use Rattle.world_rules.specs.Worlds.{SessionOf, SiteData, flat, held_by}
use Rattle.world_rules.proofs.Moving.{sunk_if}

-- ---- lists

pub set_same : {X : Type 0} (xs : List X) (i : ℕ) (x : X) → slice_get xs i ≡ Some x → set xs i x ≡ xs
set_same [] i x is = absurd cc
set_same (y ∷ ys) zero x is = let e : y ≡ x = cc in ap (λ (z : _). z ∷ ys) (sym e)
set_same (y ∷ ys) (suc i) x is = ap (λ (zs : List _). y ∷ zs) (set_same ys i x is)

flat_some : {X : Type 0} (o : Option (Option X)) (x : X) → flat o ≡ Some x → o ≡ Some (Some x)
flat_some None x is = absurd cc
flat_some (Some None) x is = absurd cc
flat_some (Some (Some y)) x is = ap Some is

-- ---- Cut

module _ (sites : List SiteData) (sessions : List (Option Talk)) (st : IsStanding sites sessions) (s : ℕ) where
  none_cuts : (o : Option Talk) → slice_get sessions s ≡ Some o → can_cut (option_map (talk_over sites) o) ≡ false → IsStep is_luhn sites sessions (events.Cut s) stepped.NoSuch sites sessions
  none_cuts o there lacks =
      none_steps sites sessions (events.Cut s)
      (λ w shows. ap can_cut (session_shown sites sessions w s shows ∙ ap (λ (x : Option (Option Talk)). flat (option_map (option_map (talk_over sites)) x)) there) ∙ lacks)

  still : (o : Option Talk) (event : _) → slice_get sessions s ≡ Some o → IsStep is_luhn sites sessions event stepped.NoSuch sites sessions
      → IsStep is_luhn sites sessions event stepped.NoSuch sites (set sessions s o) × IsStanding sites (set sessions s o)
  still o event there step = let same = sym (set_same sessions s o there) in (
    subst (IsStep is_luhn sites sessions event stepped.NoSuch sites) same step,
    subst (IsStanding sites) same st,
  )

  cuts_by : (over : Bool) (talk : Talk) (answer : Stepped) (new : Option Talk) → slice_get sessions s ≡ Some (Some talk) → is_over_talk talk ≡ over → CutsBy over talk answer new
      → IsStep is_luhn sites sessions (events.Cut s) answer sites (set sessions s new) × IsStanding sites (set sessions s new)
  cuts_by true talk answer new there over h =
      let sound = all_at (IsTalkSound st.schema.rule sites) sessions s (Some talk) st.sessions_are there in
      let lacks = can_cut_shown st.schema.rule sites talk sound ∙ ap not over in
      subst (λ (a : Stepped). IsStep is_luhn sites sessions (events.Cut s) a sites (set sessions s new) × IsStanding sites (set sessions s new)) (sym h.0)
      (subst (λ (n : Option Talk). IsStep is_luhn sites sessions (events.Cut s) stepped.NoSuch sites (set sessions s n) × IsStanding sites (set sessions s n)) (sym h.1)
      (still (Some talk) (events.Cut s) there (none_cuts (Some talk) there lacks)))
  cuts_by false talk answer new there over h =
      let sound = all_at (IsTalkSound st.schema.rule sites) sessions s (Some talk) st.sessions_are there in
      subst (λ (a : Stepped). IsStep is_luhn sites sessions (events.Cut s) a sites (set sessions s new) × IsStanding sites (set sessions s new)) (sym h.0)
      (subst (λ (n : Option Talk). IsStep is_luhn sites sessions (events.Cut s) stepped.Done sites (set sessions s n) × IsStanding sites (set sessions s n)) (sym h.1)
      (cut_steps st.schema.rule sites sessions s talk there sound over, start_stands sites sessions st s (cut_talk talk) (talk_cut st.schema.rule sites talk sound)))

  -- a session is cut, or there is none to be cut
  pub cut_goes : (o : Option Talk) (answer : Stepped) (new : Option Talk) → slice_get sessions s ≡ Some o → Cuts o answer new
      → IsStep is_luhn sites sessions (events.Cut s) answer sites (set sessions s new) × IsStanding sites (set sessions s new)
  cut_goes None answer new there h =
      subst (λ (a : Stepped). IsStep is_luhn sites sessions (events.Cut s) a sites (set sessions s new) × IsStanding sites (set sessions s new)) (sym h.0)
      (subst (λ (n : Option Talk). IsStep is_luhn sites sessions (events.Cut s) stepped.NoSuch sites (set sessions s n) × IsStanding sites (set sessions s n)) (sym h.1)
      (still None (events.Cut s) there (none_cuts None there refl)))
  cut_goes (Some talk) answer new there h = cuts_by (is_over_talk talk) talk answer new there refl h

-- ---- Carry

-- the session of which a replica reads
pub read_at : (sessions : List (Option Talk)) (s : ℕ) (forward : Bool) (r : ℕ) → reader_in forward (both_in (flat (slice_get sessions s))) ≡ Some r
    → (both : Both) × (slice_get sessions s ≡ Some (Some (talks.Both both))) × ((view_from forward both).reader ≡ r)
read_at sessions s forward r is = by_talk (flat (slice_get sessions s)) refl is
  where
    by_talk : (o : Option Talk) → flat (slice_get sessions s) ≡ o → reader_in forward (both_in o) ≡ Some r → (both : Both) × (slice_get sessions s ≡ Some (Some (talks.Both both))) × ((view_from forward both).reader ≡ r)
    by_talk None e h = absurd cc
    by_talk (Some (talks.Both both)) e h = (both, flat_some (slice_get sessions s) (talks.Both both) e, cc)
    by_talk (Some (talks.Liar liar)) e h = absurd cc

module _ (sites : List SiteData) (sessions : List (Option Talk)) (st : IsStanding sites sessions) (s : ℕ) (forward : Bool) (both : Both) (there : slice_get sessions s ≡ Some (Some (talks.Both both))) where
  talk_sound : AreBothSound st.schema.rule sites both
  talk_sound = all_at (IsTalkSound st.schema.rule sites) sessions s (Some (talks.Both both)) st.sessions_are there

  pub read_low : (view_from forward both).reader < length sites
  read_low = (view_sound st.schema.rule sites forward both talk_sound).reader

  pub can_read : (site : SiteData) → slice_get sites (view_from forward both).reader ≡ Some site → CanRead site (view_from forward both)
  can_read site at =
      let v = view_sound st.schema.rule sites forward both talk_sound in
      let was = st.each (view_from forward both).reader site at in
      let same : st.schema.rule ≡ site.store.history.schema.rule = ap (λ (x : SchemaData). x.rule) (sym was.0.schema_is) in
      record {
        sound = subst (λ (x : RuleData). IsSideSound x (held_by site) (view_from forward both).end) same
            (subst (λ (xs : List (List ℕ)). IsSideSound st.schema.rule xs (view_from forward both).end) (ap list_of at) v.end);
        members = subst (λ (x : RuleData). AreMembers x (held_by site)) same was.0.members;
        arriving = subst (λ (x : RuleData). All (IsFrameUnder x) (view_from forward both).arriving) same v.arriving;
        there = subst (λ n. (view_from forward both).other < n) (sym was.1) v.other;
      }

  -- nothing was read
  pub nothing_goes : (new : Both) → view_from forward new ≡ view_from forward both → HasNothing (view_from forward both)
      → IsStep is_luhn sites sessions (events.Carry s forward) stepped.NoSuch sites (set sessions s (Some (talks.Both new))) × IsStanding sites (set sessions s (Some (talks.Both new)))
  nothing_goes new same nothing =
      let over : talk_over sites (talks.Both new) ≡ talk_over sites (talks.Both both) =
      ap (λ (m : TwoEnds). worlds.Both m) (two_seen sites forward new ∙ ap (λ (v : View). seen_from forward (view_over sites v)) same ∙ sym (two_seen sites forward both)) in
      let step = none_read sites sessions st s forward both there talk_sound nothing in
      let f = option_map (talk_over sites) in
      let lists : map f sessions ≡ map f (set sessions s (Some (talks.Both new))) =
      ap (map f) (sym (set_same sessions s (Some (talks.Both both)) there)) ∙ map-set f sessions s (Some (talks.Both both))
      ∙ ap (λ (m : SessionOf). set (map f sessions) s (Some m)) (sym over) ∙ sym (map-set f sessions s (Some (talks.Both new))) in (
        λ w shows. let went = step w shows in (went.0, went.1, record { sites_are = went.2.sites_are; sessions_are = went.2.sessions_are ∙ lists }),
        start_stands sites sessions st s (talks.Both new)
            (both_sound st.schema.rule sites forward new (subst (IsViewSound st.schema.rule sites) (sym same) (view_sound st.schema.rule sites forward both talk_sound))),
      )

  -- a frame was read
  pub carry_goes : (site new : SiteData) (both' : Both) (failed : Bool) → slice_get sites (view_from forward both).reader ≡ Some site → ReadsFrame site (view_from forward both) new (view_from forward both')
      → is_store (view_from forward both').end.ended ≡ failed
      → IsStep is_luhn sites sessions (events.Carry s forward) stepped.Done (set sites (view_from forward both).reader (sunk_if failed new))
      (cut_where failed (view_from forward both).reader (set sessions s (Some (talks.Both both'))))
      × IsStanding (set sites (view_from forward both).reader (sunk_if failed new)) (cut_where failed (view_from forward both).reader (set sessions s (Some (talks.Both both'))))
  carry_goes site new both' failed at r fails = (
    carry_steps sites sessions st s forward both both' site new failed there talk_sound at r fails,
    carry_stands sites sessions st s forward both both' site new failed talk_sound at r,
  )

-- ---- Feed

pub hear_at : (sessions : List (Option Talk)) (s r : ℕ) → hearer_in (liar_in (flat (slice_get sessions s))) ≡ Some r
    → (liar : Liar) × (slice_get sessions s ≡ Some (Some (talks.Liar liar))) × (is_over_code liar.end ≡ false) × (liar.first ≡ r)
hear_at sessions s r is = by_talk (flat (slice_get sessions s)) refl is
  where
    by_over : (liar : Liar) (over : Bool) → is_over_code liar.end ≡ over → (if over then None else Some liar.first) ≡ Some r → (is_over_code liar.end ≡ false) × (liar.first ≡ r)
    by_over liar true e h = absurd cc
    by_over liar false e h = (e, cc)

    by_talk : (o : Option Talk) → flat (slice_get sessions s) ≡ o → hearer_in (liar_in o) ≡ Some r
        → (liar : Liar) × (slice_get sessions s ≡ Some (Some (talks.Liar liar))) × (is_over_code liar.end ≡ false) × (liar.first ≡ r)
    by_talk None e h = absurd cc
    by_talk (Some (talks.Both both)) e h = absurd cc
    by_talk (Some (talks.Liar liar)) e h = let p = by_over liar (is_over_code liar.end) refl h in (liar, flat_some (slice_get sessions s) (talks.Liar liar) e, p.0, p.1)

module _ (sites : List SiteData) (sessions : List (Option Talk)) (st : IsStanding sites sessions) (s : ℕ) (liar : Liar) (there : slice_get sessions s ≡ Some (Some (talks.Liar liar))) where
  liar_sound : IsLiarSound st.schema.rule sites liar
  liar_sound = all_at (IsTalkSound st.schema.rule sites) sessions s (Some (talks.Liar liar)) st.sessions_are there

  pub hear_low : liar.first < length sites
  hear_low = liar_sound.first

  pub can_hear : (site : SiteData) → slice_get sites liar.first ≡ Some site → CanHear site liar
  can_hear site at =
      let was = st.each liar.first site at in
      let same : st.schema.rule ≡ site.store.history.schema.rule = ap (λ (x : SchemaData). x.rule) (sym was.0.schema_is) in
      record {
        sound = subst (λ (x : RuleData). IsSideSound x (held_by site) liar.end) same (subst (λ (xs : List (List ℕ)). IsSideSound st.schema.rule xs liar.end) (ap list_of at) liar_sound.end);
        members = subst (λ (x : RuleData). AreMembers x (held_by site)) same was.0.members;
      }

  pub feed_goes : (site new : SiteData) (next : Liar) (failed : Bool) (bytes : List ℕ) → is_over_code liar.end ≡ false → slice_get sites liar.first ≡ Some site → HearsLiar site liar bytes new next
      → is_store next.end.ended ≡ failed
      → IsStep is_luhn sites sessions (events.Feed s bytes) stepped.Done (set sites liar.first (sunk_if failed new)) (cut_where failed liar.first (set sessions s (Some (talks.Liar next))))
      × IsStanding (set sites liar.first (sunk_if failed new)) (cut_where failed liar.first (set sessions s (Some (talks.Liar next))))
  feed_goes site new next failed bytes runs at h fails = (
    feed_steps sites sessions st s liar next site new failed bytes there liar_sound runs at h fails,
    feed_stands sites sessions st s liar next site new failed bytes liar_sound at h,
  )

-- ---- of the places that the code reads

module _ (sites : List SiteData) (sessions : List (Option Talk)) (st : IsStanding sites sessions) (s : ℕ) (forward : Bool) (reader : ℕ) (is : reader_in forward (both_in (flat (slice_get sessions s))) ≡ Some reader)
    (talk d : Option Talk) (site e : SiteData) (talk_is : talk ≡ get_or sessions s d) (site_is : site ≡ get_or sites reader e) where
  at : (both : Both) × (slice_get sessions s ≡ Some (Some (talks.Both both))) × ((view_from forward both).reader ≡ reader)
  at = read_at sessions s forward reader is

  talk_here : both_in talk ≡ Some at.0
  talk_here = ap both_in (talk_is ∙ get_or_from_slice_get sessions s (Some (talks.Both at.0)) d at.1)

  site_here : slice_get sites reader ≡ Some site
  site_here = slice_get-get_or sites reader e (subst (λ r. r < length sites) at.2 (read_low sites sessions st s forward at.0 at.1)) ∙ ap Some (sym site_is)

  site_there : slice_get sites (view_from forward at.0).reader ≡ Some site
  site_there = ap (slice_get sites) at.2 ∙ site_here

  -- the replica can read
  pub read_required : (both : Both) → both_in talk ≡ Some both → CanRead site (view_from forward both)
  read_required both there =
      let one : Some at.0 ≡ Some both = sym talk_here ∙ there in
      let same : at.0 ≡ both = cc in
      subst (λ (b : Both). CanRead site (view_from forward b)) same (can_read sites sessions st s forward at.0 at.1 site site_there)

  -- what is told of what was read
  abbrev pub ToldRead : Read → SiteData → Option Talk → Type 0
  ToldRead read new talk' = (both : Both) → both_in talk ≡ Some both → (left : Both) × (talk' ≡ Some (talks.Both left)) × Reads read site (view_from forward both) new (view_from forward left)

  pub nothing_left : (read : Read) (new : SiteData) (talk' : Option Talk) → read ≡ Nothing → ToldRead read new talk'
      → IsStep is_luhn sites sessions (events.Carry s forward) stepped.NoSuch (set sites reader new) (set sessions s talk') × IsStanding (set sites reader new) (set sessions s talk')
  nothing_left read new talk' none told =
      let t = told at.0 talk_here in
      let r : Reads Nothing site (view_from forward at.0) new (view_from forward t.0) = subst (λ (x : Read). Reads x site (view_from forward at.0) new (view_from forward t.0)) none t.2 in
      let same : set sites reader new ≡ sites = ap (λ (x : SiteData). set sites reader x) r.1 ∙ set_same sites reader site site_here in
      subst (λ (xs : List SiteData). IsStep is_luhn sites sessions (events.Carry s forward) stepped.NoSuch xs (set sessions s talk') × IsStanding xs (set sessions s talk')) (sym same)
      (subst (λ (o : Option Talk). IsStep is_luhn sites sessions (events.Carry s forward) stepped.NoSuch sites (set sessions s o) × IsStanding sites (set sessions s o)) (sym t.1)
      (nothing_goes sites sessions st s forward at.0 at.1 t.0 r.2 r.0))

  pub frame_left : (read : Read) (end : Option End) (new : SiteData) (talk' : Option Talk) (failed : Bool) → read ≡ Frame end → is_store end ≡ failed → ToldRead read new talk'
      → (sites' : List SiteData) (sessions' : List (Option Talk)) → sites' ≡ set sites reader (sunk_if failed new) → sessions' ≡ cut_where failed reader (set sessions s talk')
      → IsStep is_luhn sites sessions (events.Carry s forward) stepped.Done sites' sessions' × IsStanding sites' sessions'
  frame_left read end new talk' failed framed fails told sites' sessions' same_sites same_sessions =
      let t = told at.0 talk_here in
      let r : Reads (Frame end) site (view_from forward at.0) new (view_from forward t.0) = subst (λ (x : Read). Reads x site (view_from forward at.0) new (view_from forward t.0)) framed t.2 in
      let went = carry_goes sites sessions st s forward at.0 at.1 site new t.0 failed site_there r.0 (ap is_store (sym r.1) ∙ fails) in
      subst (λ (xs : List SiteData). IsStep is_luhn sites sessions (events.Carry s forward) stepped.Done xs sessions' × IsStanding xs sessions') (sym same_sites)
      (subst (λ (ts : List (Option Talk)). IsStep is_luhn sites sessions (events.Carry s forward) stepped.Done (set sites reader (sunk_if failed new)) ts × IsStanding (set sites reader (sunk_if failed new)) ts) (sym same_sessions)
      (subst (λ (o : Option Talk). IsStep is_luhn sites sessions (events.Carry s forward) stepped.Done (set sites reader (sunk_if failed new)) (cut_where failed reader (set sessions s o))
      × IsStanding (set sites reader (sunk_if failed new)) (cut_where failed reader (set sessions s o))) (sym t.1)
      (subst (λ r'. IsStep is_luhn sites sessions (events.Carry s forward) stepped.Done (set sites r' (sunk_if failed new)) (cut_where failed r' (set sessions s (Some (talks.Both t.0))))
      × IsStanding (set sites r' (sunk_if failed new)) (cut_where failed r' (set sessions s (Some (talks.Both t.0))))) at.2 went)))

module _ (sites : List SiteData) (sessions : List (Option Talk)) (st : IsStanding sites sessions) (s : ℕ) (bytes : List ℕ) (reader : ℕ) (is : hearer_in (liar_in (flat (slice_get sessions s))) ≡ Some reader)
    (talk d : Option Talk) (site e : SiteData) (talk_is : talk ≡ get_or sessions s d) (site_is : site ≡ get_or sites reader e) where
  spot : (liar : Liar) × (slice_get sessions s ≡ Some (Some (talks.Liar liar))) × (is_over_code liar.end ≡ false) × (liar.first ≡ reader)
  spot = hear_at sessions s reader is

  liar_here : liar_in talk ≡ Some spot.0
  liar_here = ap liar_in (talk_is ∙ get_or_from_slice_get sessions s (Some (talks.Liar spot.0)) d spot.1)

  hearer_there : slice_get sites spot.0.first ≡ Some site
  hearer_there =
      ap (slice_get sites) spot.3 ∙ slice_get-get_or sites reader e (subst (λ r. r < length sites) spot.3 (hear_low sites sessions st s spot.0 spot.1)) ∙ ap Some (sym site_is)

  -- the replica can hear
  pub hear_required : (liar : Liar) → liar_in talk ≡ Some liar → CanHear site liar
  hear_required liar there =
      let one : Some spot.0 ≡ Some liar = sym liar_here ∙ there in
      let same : spot.0 ≡ liar = cc in
      subst (CanHear site) same (can_hear sites sessions st s spot.0 spot.1 site hearer_there)

  abbrev pub ToldHeard : Option End → SiteData → Option Talk → Type 0
  ToldHeard end new talk' = (liar : Liar) → liar_in talk ≡ Some liar → (left : Liar) × (talk' ≡ Some (talks.Liar left)) × HearsLiar site liar bytes new left × (end ≡ left.end.ended)

  pub heard_left : (end : Option End) (new : SiteData) (talk' : Option Talk) (failed : Bool) → is_store end ≡ failed → ToldHeard end new talk'
      → (sites' : List SiteData) (sessions' : List (Option Talk)) → sites' ≡ set sites reader (sunk_if failed new) → sessions' ≡ cut_where failed reader (set sessions s talk')
      → IsStep is_luhn sites sessions (events.Feed s bytes) stepped.Done sites' sessions' × IsStanding sites' sessions'
  heard_left end new talk' failed fails told sites' sessions' same_sites same_sessions =
      let t = told spot.0 liar_here in
      let went = feed_goes sites sessions st s spot.0 spot.1 site new t.0 failed bytes spot.2 hearer_there t.2 (ap is_store (sym t.3) ∙ fails) in
      subst (λ (xs : List SiteData). IsStep is_luhn sites sessions (events.Feed s bytes) stepped.Done xs sessions' × IsStanding xs sessions') (sym same_sites)
      (subst (λ (ts : List (Option Talk)). IsStep is_luhn sites sessions (events.Feed s bytes) stepped.Done (set sites reader (sunk_if failed new)) ts × IsStanding (set sites reader (sunk_if failed new)) ts) (sym same_sessions)
      (subst (λ (o : Option Talk). IsStep is_luhn sites sessions (events.Feed s bytes) stepped.Done (set sites reader (sunk_if failed new)) (cut_where failed reader (set sessions s o))
      × IsStanding (set sites reader (sunk_if failed new)) (cut_where failed reader (set sessions s o))) (sym t.1)
      (subst (λ r'. IsStep is_luhn sites sessions (events.Feed s bytes) stepped.Done (set sites r' (sunk_if failed new)) (cut_where failed r' (set sessions s (Some (talks.Liar t.0))))
      × IsStanding (set sites r' (sunk_if failed new)) (cut_where failed r' (set sessions s (Some (talks.Liar t.0))))) spot.3 went)))
