-- What a Start does to what the code of a world shows.
use Rattle.std.proofs.Common.{◌≡◌, ℕ, ◌+◌, ◌≤◌, Bool, true, false, ◌&&◌, ◌==◌, List, [], ◌∷◌, length, map, set, All, Option, Some, None, refl, sym, ap, ap₂, subst, ◌∙◌, arith, length-set}
use Rattle.std.specs.Prelude.{is_none, nat_lt, not, option_map, slice_get, slice_set}
use Rattle.std.specs.VecDeque.{deque_items}
use Rattle.std.proofs.lemmas.Bool.Decides.{nat_tests}
use Rattle.std.proofs.lemmas.List.{length-map, map-set}
use Rattle.std.proofs.lemmas.List.Elements.{All-cons, All-nil, All-set}
use Rattle.std.proofs.lemmas.Option.{slice_get_within}
use Rattle.row_check.specs.Checksum.{is_luhn}
use Rattle.schema.specs.Data.{SchemaData}
use Rattle.session_rules.specs.Course.{opened}
use Rattle.session_rules.specs.State.{HelloData, SessionData}
use Rattle.session_rules.specs.State as rules
use Rattle.session_rules.specs.Steps.{IsHello}
use Rattle.session_rules.specs.declared.role.Role.{Role}
use Rattle.session_rules.specs.declared.role.Role.TheVariants.{Initiator, Responder}
use Rattle.sync_frames.specs.Fed.{FedData}
use Rattle.sync_frames.specs.Payload as payload
use Rattle.sync_frames.specs.Stream.{IsBroken}
use Rattle.sync_session.specs.Kept.{BelongsTo, IsFrameUnder, Kept, frame_of, hello_of, seen}
use Rattle.sync_session.specs.Starts.{StartsAs}
use Rattle.sync_session.specs.declared.out.Out.{Out}
use Rattle.update_codec.specs.Parts.{entry_of}
use Rattle.update_model.specs.declared.update_id.UpdateId.{UpdateId}
use Rattle.update_model.specs.Batch.{store_limits}
use Rattle.update_model.specs.Rule.{RuleData}
use Rattle.byzantine_world.specs.Codes.{Shows, end_over, is_free_in, list_at, list_of, side_of, talk_over}
use Rattle.byzantine_world.specs.Events.{IsStep, way_of}
use Rattle.byzantine_world.specs.Standing.{AreBothSound, IsLiarSound, IsSideSound, IsStanding, IsTalkSound}
use Rattle.byzantine_world.specs.declared.talk.Both.{Both}
use Rattle.byzantine_world.specs.declared.talk.Side.{Side}
use Rattle.byzantine_world.specs.declared.talk.Talk.{Talk}
use Rattle.byzantine_world.specs.declared.talk.Talk.TheVariants as talks
use Rattle.byzantine_world.proofs.Cutting.{session_shown}
use Rattle.world_rules.specs.Happens.{HappensTo, Starts, began, can_start, is_free, recalled}
use Rattle.world_rules.specs.declared.event.Event.TheVariants as events
use Rattle.world_rules.specs.declared.event.Stepped.TheVariants as stepped
use Rattle.world_rules.specs.Meetings.{EndData}
use Rattle.world_rules.specs.Worlds as worlds
use Rattle.world_rules.specs.Worlds.{SessionOf, SiteData, WorldData, flat, held_by, is_up, site_at}

-- ---- what is free

none_flat : (sites : List SiteData) (o : Option (Option Talk)) → is_none (flat (option_map (option_map (talk_over sites)) o)) ≡ is_none (flat o)
none_flat sites None = refl
none_flat sites (Some None) = refl
none_flat sites (Some (Some talk)) = refl

pub free_shown : (sites : List SiteData) (sessions : List (Option Talk)) (w : WorldData) (s : ℕ) → Shows sites sessions w → is_free w s ≡ is_free_in sessions s
free_shown sites sessions w s shows =
    ap₂ (λ (n : ℕ) (b : Bool). nat_lt s n && b) (ap length shows.sessions_are ∙ length-map sessions (option_map (talk_over sites)))
    (ap is_none (session_shown sites sessions w s shows) ∙ none_flat sites (slice_get sessions s))

pub up_shown : (sites : List SiteData) (sessions : List (Option Talk)) (w : WorldData) (r : ℕ) → Shows sites sessions w → is_up (site_at w r) ≡ is_up (slice_get sites r)
up_shown sites sessions w r shows = ap (λ (xs : List SiteData). is_up (slice_get xs r)) shows.sites_are

-- ---- nothing happens

-- ---- an end that begins

opened_runs : (role : Role) (database node : List ℕ) (old : List UpdateId) (list : List _) → (opened role database node old list).ended ≡ None
opened_runs Initiator database node old list = refl
opened_runs Responder database node old list = refl

pub begun_sound : (rule : RuleData) (role : Role) (database node : List ℕ) (old : List UpdateId) (members : List (List ℕ)) (k : Kept) (gives : Out) → StartsAs role database node old members k gives
    → BelongsTo store_limits rule k members → IsSideSound rule members (side_of k)
begun_sound rule role database node old members k gives s belongs = record {
  belongs = belongs;
  runs = s.failed;
  told = ap (λ (x : SessionData). x.ended) s.state ∙ opened_runs role database node old (map entry_of members);
}

-- ---- a session that is new

there_of : (sites : List SiteData) (r : ℕ) (site : SiteData) → slice_get sites r ≡ Some site → list_at sites r ≡ held_by site
there_of sites r site is = ap list_of is

pub start_shows : (sites : List SiteData) (sessions : List (Option Talk)) (w : WorldData) (s : ℕ) (talk : Talk) → Shows sites sessions w
    → Shows sites (set sessions s (Some talk)) (record w { sessions = slice_set w.sessions s (Some (talk_over sites talk)); event = w.event + 1 })
start_shows sites sessions w s talk shows = record {
  sites_are = shows.sites_are;
  sessions_are = ap (λ (xs : List (Option SessionOf)). set xs s (Some (talk_over sites talk))) shows.sessions_are ∙ sym (map-set (option_map (talk_over sites)) sessions s (Some talk));
}

pub start_stands : (sites : List SiteData) (sessions : List (Option Talk)) (st : IsStanding sites sessions) (s : ℕ) (talk : Talk) → IsTalkSound st.schema.rule sites (Some talk)
    → IsStanding sites (set sessions s (Some talk))
start_stands sites sessions st s talk sound = record {
  schema = st.schema;
  taken = st.taken;
  each = st.each;
  sessions_are = All-set (IsTalkSound st.schema.rule sites) sessions s (Some talk) sound st.sessions_are;
  numbers = length-set sessions s (Some talk) ∙ st.numbers;
}

start_steps : (sites : List SiteData) (sessions : List (Option Talk)) (s first : ℕ) (second : Option ℕ) (talk : Talk) → is_free_in sessions s ≡ true
    → ((w : WorldData) → Shows sites sessions w → can_start w first second ≡ true) → ((w : WorldData) → Shows sites sessions w → Starts w s first second (talk_over sites talk))
    → IsStep is_luhn sites sessions (events.Start s first second) stepped.Done sites (set sessions s (Some talk))
start_steps sites sessions s first second talk free can starts w shows =
    let next : WorldData = record w { sessions = slice_set w.sessions s (Some (talk_over sites talk)); event = w.event + 1 } in (
      next,
      subst (λ (b : Bool). HappensTo b is_luhn w (events.Start s first second) stepped.Done next) (sym (ap₂ (λ (a b : Bool). a && b) (free_shown sites sessions w s shows ∙ free) (can w shows)))
          (record { session = talk_over sites talk; starts = starts w shows; done = refl; is = refl }),
      start_shows sites sessions w s talk shows,
    )

-- with a liar
not_broken : IsBroken [] → ⊥
not_broken broken = let enough : 5 ≤ 0 = broken.enough in absurd (omega arith)

module _ (sites : List SiteData) (sessions : List (Option Talk)) (st : IsStanding sites sessions) (s first : ℕ) (k : Kept) (gives : Out) (site : SiteData) (there : slice_get sites first ≡ Some site)
    (starts : StartsAs Initiator site.store.history.schema.rule.database site.store.node [] (held_by site) k gives) where
  abbrev liar_talk : Talk
  liar_talk = talks.Liar (record { first = first; end = side_of k; frames = record { place = 0; rest = [] } })

  end_is : end_over sites first (side_of k) ≡ began true site []
  end_is = ap (λ (xs : List (List ℕ)). record { state = seen xs k; is_cut = false }) (there_of sites first site there) ∙ ap (λ (x : SessionData). record { state = x; is_cut = false }) starts.state

  pub liar_steps : is_free_in sessions s ≡ true → is_up (slice_get sites first) ≡ true → IsStep is_luhn sites sessions (events.Start s first None) stepped.Done sites (set sessions s (Some liar_talk))
  liar_steps free up =
      start_steps sites sessions s first None liar_talk free (λ w shows. up_shown sites sessions w first shows ∙ up)
      (λ w shows. (
        site,
        ap (λ (xs : List SiteData). slice_get xs first) shows.sites_are ∙ there,
        ap (λ (e : EndData). worlds.Liar (record { first = first; end = e; fed = record { place = 0; rest = [] } })) end_is,
      ))

  pub liar_stands : BelongsTo store_limits site.store.history.schema.rule k (held_by site) → IsStanding sites (set sessions s (Some liar_talk))
  liar_stands belongs =
      let same : site.store.history.schema.rule ≡ st.schema.rule = ap (λ (x : SchemaData). x.rule) (st.each first site there).0.schema_is in
      let sound : IsLiarSound st.schema.rule sites (record { first = first; end = side_of k; frames = record { place = 0; rest = [] } }) = record {
        first = slice_get_within sites first site there;
        end = subst (λ (xs : List (List ℕ)). IsSideSound st.schema.rule xs (side_of k)) (sym (there_of sites first site there))
            (subst (λ (x : RuleData). IsSideSound x (held_by site) (side_of k)) same (begun_sound site.store.history.schema.rule Initiator _ _ _ (held_by site) k gives starts belongs));
        fine = λ runs. not_broken;
      } in
      start_stands sites sessions st s liar_talk sound

-- the session with a liar, as it was made
pub liar_talk_is : (first : ℕ) (k : Kept) (side : Side) (fed : FedData) → side ≡ side_of k → fed ≡ record { place = 0; rest = [] }
    → ◌≡◌ {A = Talk} (talks.Liar (record { first = first; end = side; frames = fed })) (talks.Liar (record { first = first; end = side_of k; frames = record { place = 0; rest = [] } }))
liar_talk_is first k side fed a b = ap₂ (λ (e : Side) (f : FedData). talks.Liar (record { first = first; end = e; frames = f })) a b

-- two replicas that are not one
pub apart_test : (a b : ℕ) → (a ≡ b → ⊥) → not (a == b) ≡ true
apart_test a b apart = grind (arith, nat_tests)

-- with another replica
hello_there : (hello : Option payload.HelloData) (says : HelloData) → option_map hello_of hello ≡ Some says → map frame_of (way_of hello) ≡ rules.Hello says ∷ []
hello_there None says is = absurd cc
hello_there (Some h) says is = let same : hello_of h ≡ says = cc in ap (λ (x : HelloData). rules.Hello x ∷ []) same

way_under : (rule : RuleData) (hello : Option payload.HelloData) → All (IsFrameUnder rule) (way_of hello)
way_under rule None = All-nil (IsFrameUnder rule)
way_under rule (Some h) = All-cons (IsFrameUnder rule) _ [] tt (All-nil (IsFrameUnder rule))

module _ (sites : List SiteData) (sessions : List (Option Talk)) (st : IsStanding sites sessions) (s : ℕ) (both : Both) (k other_k : Kept) (gives other_gives : Out) (site other : SiteData)
    (there : slice_get sites both.first ≡ Some site) (there_too : slice_get sites both.second ≡ Some other)
    (starts : StartsAs Initiator site.store.history.schema.rule.database site.store.node (recalled site both.second) (held_by site) k gives)
    (waits : StartsAs Responder other.store.history.schema.rule.database other.store.node (recalled other both.first) (held_by other) other_k other_gives)
    (a_is : both.a ≡ side_of k) (b_is : both.b ≡ side_of other_k) (to_a_is : deque_items both.to_a ≡ []) (to_b_is : deque_items both.to_b ≡ way_of gives.hello) where
  a_shows : end_over sites both.first both.a ≡ began true site (recalled site both.second)
  a_shows =
      ap₂ (λ (xs : List (List ℕ)) (x : _). record { state = seen xs x.session; is_cut = x.is_cut }) (there_of sites both.first site there) a_is
      ∙ ap (λ (x : SessionData). record { state = x; is_cut = false }) starts.state

  b_shows : end_over sites both.second both.b ≡ began false other (recalled other both.first)
  b_shows =
      ap₂ (λ (xs : List (List ℕ)) (x : _). record { state = seen xs x.session; is_cut = x.is_cut }) (there_of sites both.second other there_too) b_is
      ∙ ap (λ (x : SessionData). record { state = x; is_cut = false }) waits.state

  pub two_starts : (w : WorldData) → Shows sites sessions w → Starts w s both.first (Some both.second) (talk_over sites (talks.Both both))
  two_starts w shows =
      let hello = starts.greets.0 in
      let way : map frame_of (deque_items both.to_b) ≡ rules.Hello hello ∷ [] =
      ap (map frame_of) to_b_is ∙ hello_there gives.hello hello (ap (λ (o : _). o.hello) starts.greets.2) in (
        site,
        ap (λ (xs : List SiteData). slice_get xs both.first) shows.sites_are ∙ there,
        (
          other,
          ap (λ (xs : List SiteData). slice_get xs both.second) shows.sites_are ∙ there_too,
          (
            hello,
            subst (λ (x : SessionData). IsHello x hello) starts.state starts.greets.1,
            ap₂ (λ (a b : EndData). worlds.Both (record { first = both.first; second = both.second; a = a; b = b; to_a = map frame_of (deque_items both.to_a); to_b = map frame_of (deque_items both.to_b) })) a_shows b_shows
                ∙ ap₂ (λ (x y : List rules.FrameData). worlds.Both (record {
                  first = both.first;
                  second = both.second;
                  a = began true site (recalled site both.second);
                  b = began false other (recalled other both.first);
                  to_a = x;
                  to_b = y;
                })) (ap (map frame_of) to_a_is) way,
          ),
        ),
      )

  pub two_steps : is_free_in sessions s ≡ true → (is_up (slice_get sites both.first) && (is_up (slice_get sites both.second) && not (both.first == both.second))) ≡ true
      → IsStep is_luhn sites sessions (events.Start s both.first (Some both.second)) stepped.Done sites (set sessions s (Some (talks.Both both)))
  two_steps free can =
      start_steps sites sessions s both.first (Some both.second) (talks.Both both) free
      (λ w shows. ap₂ (λ (a b : Bool). a && (b && not (both.first == both.second))) (up_shown sites sessions w both.first shows) (up_shown sites sessions w both.second shows) ∙ can) two_starts

  pub two_stand : BelongsTo store_limits site.store.history.schema.rule k (held_by site) → BelongsTo store_limits other.store.history.schema.rule other_k (held_by other)
      → IsStanding sites (set sessions s (Some (talks.Both both)))
  two_stand belongs belongs_too =
      let rule = st.schema.rule in
      let same : site.store.history.schema.rule ≡ rule = ap (λ (x : SchemaData). x.rule) (st.each both.first site there).0.schema_is in
      let same_too : other.store.history.schema.rule ≡ rule = ap (λ (x : SchemaData). x.rule) (st.each both.second other there_too).0.schema_is in
      let a = begun_sound site.store.history.schema.rule Initiator _ _ _ (held_by site) k gives starts belongs in
      let b = begun_sound other.store.history.schema.rule Responder _ _ _ (held_by other) other_k other_gives waits belongs_too in
      let sound : AreBothSound rule sites both = record {
        first = slice_get_within sites both.first site there;
        second = slice_get_within sites both.second other there_too;
        a = subst (IsSideSound rule (list_at sites both.first)) (sym a_is)
            (subst (λ (xs : List (List ℕ)). IsSideSound rule xs (side_of k)) (sym (there_of sites both.first site there)) (subst (λ (x : RuleData). IsSideSound x (held_by site) (side_of k)) same a));
        b = subst (IsSideSound rule (list_at sites both.second)) (sym b_is)
            (subst (λ (xs : List (List ℕ)). IsSideSound rule xs (side_of other_k)) (sym (there_of sites both.second other there_too)) (subst (λ (x : RuleData). IsSideSound x (held_by other) (side_of other_k)) same_too b));
        to_a = subst (All (IsFrameUnder rule)) (sym to_a_is) (All-nil (IsFrameUnder rule));
        to_b = subst (All (IsFrameUnder rule)) (sym to_b_is) (way_under rule gives.hello);
      } in
      start_stands sites sessions st s (talks.Both both) sound
