-- What a Make, a Stop and a Restart do to what the code of a world shows.
use Rattle.std.proofs.Common.{◌≡◌, inl, inr, ℕ, suc, ◌<◌, Bool, true, false, List, [], ◌∷◌, ◌++◌, length, map, get_or, set, All, Option, Some, Result, refl, sym, ap, ap₂, subst, ◌∙◌, length-set, arith}
use Rattle.std.specs.Prelude.{not, option_map, slice_get}
use Rattle.std.proofs.lemmas.Bool.{cases_eq}
use Rattle.std.proofs.lemmas.Option.{slice_get-get_or}
use Rattle.row_check.specs.Checksum.{is_luhn}
use Rattle.key_index.specs.KeyState.{KeyState}
use Rattle.replica.specs.Replicas.{ReplicaState}
use Rattle.replica.specs.declared.make_fault.MakeFault.{MakeFault}
use Rattle.update_model.specs.declared.op.Op.{Op}
use Rattle.update_model.specs.declared.update_id.UpdateId.{UpdateId}
use Rattle.update_model.specs.Rule.{RuleData}
use Rattle.byzantine_world.specs.Codes.{Shows, list_at, list_of, talk_over}
use Rattle.byzantine_world.specs.Events.{IsStep, cut_code_with, cut_where}
use Rattle.byzantine_world.specs.Standing.{IsStanding, IsTalkSound}
use Rattle.byzantine_world.specs.declared.talk.Talk.{Talk}
use Rattle.byzantine_world.proofs.Showing.{Grow, cut_with_shown, talk_same, talk_sound}
use Rattle.world_rules.specs.Happens.{Answers, Happens, HappensTo, MakesBy, Signs, ending, has_failed}
use Rattle.world_rules.specs.declared.event.Event.TheVariants as events
use Rattle.world_rules.specs.declared.event.Stepped.{Stepped}
use Rattle.world_rules.specs.Lists.{Extends}
use Rattle.world_rules.specs.Worlds.{SessionOf, SignedData, SiteData, WorldData, cut_with, held_by, is_up, site_at, sunk}
use Rattle.world_rules.proofs.Moving.{sunk_if}
use Rattle.world_rules.proofs.Places.{set_here, set_there}
use Rattle.world_rules.proofs.Sites.{same_extends}

-- ---- lists of sessions

next_low : (k n : ℕ) → k < n → suc k < suc n
next_low k n low = omega (arith, low)

-- sessions that are seen as before
pub talks_same : (rule : RuleData) (sites new : List SiteData) (sessions : List (Option Talk)) → Grow rule sites new → All (IsTalkSound rule sites) sessions
    → map (option_map (talk_over new)) sessions ≡ map (option_map (talk_over sites)) sessions
talks_same rule sites new [] grow all = refl
talks_same rule sites new (talk ∷ sessions) grow all =
    ap₂ (λ (t : Option SessionOf) (ts : List (Option SessionOf)). t ∷ ts) (talk_same rule sites new grow talk (all 0 talk (omega arith)))
    (talks_same rule sites new sessions grow (λ k t low. all (suc k) t (next_low k (length sessions) low)))

-- sessions that are cut
pub talks_cut : (rule : RuleData) (sites : List SiteData) (r : ℕ) (sessions : List (Option Talk)) → All (IsTalkSound rule sites) sessions
    → map (cut_with r) (map (option_map (talk_over sites)) sessions) ≡ map (option_map (talk_over sites)) (map (cut_code_with r) sessions)
talks_cut rule sites r [] all = refl
talks_cut rule sites r (talk ∷ sessions) all =
    ap₂ (λ (t : Option SessionOf) (ts : List (Option SessionOf)). t ∷ ts) (cut_with_shown rule sites r talk (all 0 talk (omega arith)))
    (talks_cut rule sites r sessions (λ k t low. all (suc k) t (next_low k (length sessions) low)))

-- sessions that are sound stay so
pub all_sound : (rule : RuleData) (sites new : List SiteData) (sessions : List (Option Talk)) → Grow rule sites new → All (IsTalkSound rule sites) sessions → All (IsTalkSound rule new) sessions
all_sound rule sites new sessions grow all k d low = talk_sound rule sites new grow (get_or sessions k d) (all k d low)

-- ---- one replica goes on

module _ (sites : List SiteData) (sessions : List (Option Talk)) (st : IsStanding sites sessions) (r : ℕ) (site : SiteData) (there : slice_get sites r ≡ Some site) where
  pub grow_one : (new : SiteData) → Extends st.schema.rule (held_by site) (held_by new) → Grow st.schema.rule sites (set sites r new)
  grow_one new e = record { many = length-set sites r new; each = each }
    where
      each : (q : ℕ) → q < length sites → Extends st.schema.rule (list_at sites q) (list_at (set sites r new) q)
      each q low = elim (cases_eq q r) [
        | inl same ↦
            let was : list_at sites q ≡ held_by site = ap (λ k. list_of (slice_get sites k)) same ∙ ap list_of there in
            let now : list_at (set sites r new) q ≡ held_by new = ap (λ k. list_of (slice_get (set sites r new) k)) same ∙ ap list_of (set_here sites r new site there) in
            subst (λ (xs : List (List ℕ)). Extends st.schema.rule xs (list_at (set sites r new) q)) (sym was) (subst (Extends st.schema.rule (held_by site)) (sym now) e)
        | inr apart ↦
            let other = get_or sites q site in
            let is : slice_get sites q ≡ Some other = slice_get-get_or sites q site low in
            let was : list_at sites q ≡ held_by other = ap list_of is in
            let now : list_at (set sites r new) q ≡ held_by other = ap list_of (set_there sites r q new other apart is) in
            subst (λ (xs : List (List ℕ)). Extends st.schema.rule xs (list_at (set sites r new) q)) (sym was)
            (subst (Extends st.schema.rule (held_by other)) (sym now) (same_extends st.schema.rule (held_by other) (st.each q other is).0.members))
      ]

  -- what is shown once it went on, and failed or not
  pub one_shows : (failed : Bool) (new : SiteData) (w mid : WorldData) → Extends st.schema.rule (held_by site) (held_by new) → Shows sites sessions w → mid.sites ≡ w.sites → mid.sessions ≡ w.sessions
      → Shows (set sites r (sunk_if failed new)) (cut_where failed r sessions) (ending failed r new mid)
  one_shows true new w mid e s same same_sessions =
      let grow = grow_one (sunk new) e in
      record {
        sites_are = ap (λ (xs : List SiteData). set xs r (sunk new)) (same ∙ s.sites_are);
        sessions_are = ap (map (cut_with r)) (same_sessions ∙ s.sessions_are ∙ sym (talks_same st.schema.rule sites (set sites r (sunk new)) sessions grow st.sessions_are))
            ∙ talks_cut st.schema.rule (set sites r (sunk new)) r sessions (all_sound st.schema.rule sites (set sites r (sunk new)) sessions grow st.sessions_are);
      }
  one_shows false new w mid e s same same_sessions = record {
    sites_are = ap (λ (xs : List SiteData). set xs r new) (same ∙ s.sites_are);
    sessions_are = same_sessions ∙ s.sessions_are ∙ sym (talks_same st.schema.rule sites (set sites r new) sessions (grow_one new e) st.sessions_are);
  }

-- ---- Make

make_happens : (w : WorldData) (r : ℕ) (ops : List Op) (c : List ℕ) (result : Result UpdateId MakeFault) (store : ReplicaState) (key : KeyState) (answer : Stepped) (site : SiteData) (signs : List SignedData)
    → site_at w r ≡ Some site → site.is_down ≡ false → MakesBy is_luhn site.store site.key ops c result store key → Signs result r w.event site.store site.key ops signs → Answers result answer
    → Happens is_luhn w (events.Make r ops) answer (ending (has_failed result) r (record site { store = store; key = key }) (record w { signed = w.signed ++ signs }))
make_happens w r ops c result store key answer site signs there up makes signed answers =
    subst (λ (b : Bool). HappensTo b is_luhn w (events.Make r ops) answer (ending (has_failed result) r (record site { store = store; key = key }) (record w { signed = w.signed ++ signs })))
    (sym (ap is_up there ∙ ap not up)) (record {
      site = site;
      there = there;
      c = c;
      result = result;
      store = store;
      key = key;
      signs = signs;
      makes = makes;
      signed = signed;
      answers = answers;
      is = refl;
    })

-- A Make of a replica that is up is one of the relation's.
pub make_steps : (sites : List SiteData) (sessions : List (Option Talk)) (st : IsStanding sites sessions) (r : ℕ) (site : SiteData) (ops : List Op) (c : List ℕ) (result : Result UpdateId MakeFault)
    (store : ReplicaState) (key : KeyState) (answer : Stepped) → slice_get sites r ≡ Some site → site.is_down ≡ false → MakesBy is_luhn site.store site.key ops c result store key
    → ((q event : ℕ) → (signs : List SignedData) × Signs result q event site.store site.key ops signs) → Answers result answer → Extends st.schema.rule (held_by site) store.history.members
    → IsStep is_luhn sites sessions (events.Make r ops) answer (set sites r (sunk_if (has_failed result) (record site { store = store; key = key }))) (cut_where (has_failed result) r sessions)
make_steps sites sessions st r site ops c result store key answer there up makes signs answers e w s =
    let new : SiteData = record site { store = store; key = key } in
    let one = signs r w.event in
    let mid : WorldData = record w { signed = w.signed ++ one.0 } in (
      ending (has_failed result) r new mid,
      make_happens w r ops c result store key answer site one.0 (ap (λ (xs : List SiteData). slice_get xs r) s.sites_are ∙ there) up makes one.1 answers,
      one_shows sites sessions st r site there (has_failed result) new w mid e s refl refl,
    )
