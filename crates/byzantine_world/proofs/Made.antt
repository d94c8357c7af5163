-- What a Make leaves.
use Rattle.std.proofs.Common.{◌≡◌, ℕ, Bool, true, false, List, [], set, Option, Some, None, Result, Ok, Err, refl, sym, subst}
use Rattle.std.specs.Prelude.{IfOk, OnOk, slice_get}
use Rattle.row_check.specs.Checksum.{is_luhn}
use Rattle.key_index.specs.KeyState.{KeyState}
use Rattle.replica.specs.Replicas.{ReplicaState}
use Rattle.replica.specs.declared.make_fault.MakeFault.{MakeFault}
use Rattle.session_rules.proofs.Words.{not_true}
use Rattle.update_model.specs.declared.op.Op.{Op}
use Rattle.update_model.specs.declared.update_id.UpdateId.{UpdateId}
use Rattle.byzantine_world.specs.Events.{IsStep, cut_where}
use Rattle.byzantine_world.specs.Standing.{IsStanding}
use Rattle.byzantine_world.specs.declared.talk.Talk.{Talk}
use Rattle.byzantine_world.proofs.Acts.{make_steps}
use Rattle.byzantine_world.proofs.Keeping.{one_stands}
use Rattle.world_rules.specs.Happens.{Answers, MakesBy, MakesIn, Signs, ending, has_failed}
use Rattle.world_rules.specs.declared.event.Event.TheVariants as events
use Rattle.world_rules.specs.declared.event.Stepped.{Stepped}
use Rattle.world_rules.specs.Worlds.{SignedData, SiteData, WorldData, is_up}
use Rattle.world_rules.proofs.Events.{make_site}
use Rattle.world_rules.proofs.Moving.{sunk_if}
use Rattle.world_rules.proofs.Sites.{SiteMoves}

-- a replica that is up is there
pub up_site : (sites : List SiteData) (r : ℕ) → is_up (slice_get sites r) ≡ true → (site : SiteData) × (slice_get sites r ≡ Some site) × (site.is_down ≡ false)
up_site sites r up = by_found (slice_get sites r) refl up
  where
    by_found : (found : Option SiteData) → slice_get sites r ≡ found → is_up found ≡ true → (site : SiteData) × (slice_get sites r ≡ Some site) × (site.is_down ≡ false)
    by_found None is e = absurd cc
    by_found (Some site) is e = (site, is, not_true site.is_down e)

-- What a step and what stands is said of, where the replica failed or not.
abbrev pub Goes : List SiteData → List (Option Talk) → ℕ → List Op → SiteData → Bool → Stepped → Type 0
Goes sites sessions r ops new failed answer =
    IsStep is_luhn sites sessions (events.Make r ops) answer (set sites r (sunk_if failed new)) (cut_where failed r sessions) × IsStanding (set sites r (sunk_if failed new)) (cut_where failed r sessions)

module _ (sites : List SiteData) (sessions : List (Option Talk)) (st : IsStanding sites sessions) (r : ℕ) (site : SiteData) (ops : List Op) (c : List ℕ) (result : Result UpdateId MakeFault)
    (store : ReplicaState) (key : KeyState) (there : slice_get sites r ≡ Some site) (up : site.is_down ≡ false) (makes : MakesBy is_luhn site.store site.key ops c result store key)
    (signs : (q event : ℕ) → (signs : List SignedData) × Signs result q event site.store site.key ops signs) where
  abbrev new : SiteData
  new = record site { store = store; key = key }

  abbrev alone : WorldData
  alone = record { sites = sites; sessions = []; signed = []; met = []; event = 0 }

  moves : (answer : Stepped) → Answers result answer → SiteMoves st.schema site new
  moves answer answers =
      let one = signs r 0 in
      let m : MakesIn is_luhn alone r ops answer (ending (has_failed result) r new (record alone { signed = one.0 })) = record {
        site = site;
        there = there;
        c = c;
        result = result;
        store = store;
        key = key;
        signs = one.0;
        makes = makes;
        signed = one.1;
        answers = answers;
        is = refl;
      } in
      make_site is_luhn st.schema alone _ r ops answer (λ q s is. (st.each q s is).0) m

  goes : (answer : Stepped) → Answers result answer → Goes sites sessions r ops new (has_failed result) answer
  goes answer answers =
      let on = moves answer answers in (
        make_steps sites sessions st r site ops c result store key answer there up makes signs answers on.extends,
        one_stands sites sessions st r site new (has_failed result) there on refl,
      )

  -- of every answer
  pub make_goes : {E : Type 0} (told : Result Stepped E) (failed : Bool) → has_failed result ≡ failed → IfOk told (Answers result) → IfOk told (λ answer. Goes sites sessions r ops new failed answer)
  make_goes (Ok answer) failed is answers = subst (λ (b : Bool). Goes sites sessions r ops new b answer) is (goes answer answers)
  make_goes (Err error) failed is answers = tt

pub step_of : {E : Type 0} (told : Result Stepped E) (P Q : Stepped → Type 0) → IfOk told (λ answer. P answer × Q answer) → IfOk told P
step_of (Ok answer) P Q both = both.0
step_of (Err error) P Q both = tt

pub stands_of : {E : Type 0} (told : Result Stepped E) (P : Stepped → Type 0) (Q : Type 0) → IfOk told (λ answer. P answer × Q) → OnOk told Q
stands_of (Ok answer) P Q both = both.1
stands_of (Err error) P Q both = tt

-- what is left has these replicas and these sessions
pub make_ends : (sites : List SiteData) (sessions : List (Option Talk)) (st : IsStanding sites sessions) (r : ℕ) (site : SiteData) (ops : List Op) (c : List ℕ) (result : Result UpdateId MakeFault)
    (store : ReplicaState) (key : KeyState) → slice_get sites r ≡ Some site → site.is_down ≡ false → MakesBy is_luhn site.store site.key ops c result store key
    → ((q event : ℕ) → (signs : List SignedData) × Signs result q event site.store site.key ops signs) → {E : Type 0} (told : Result Stepped E) (failed : Bool) → has_failed result ≡ failed
    → IfOk told (Answers result) → (sites' : List SiteData) (sessions' : List (Option Talk)) → sites' ≡ set sites r (sunk_if failed (record site { store = store; key = key }))
    → sessions' ≡ cut_where failed r sessions → IfOk told (λ answer. IsStep is_luhn sites sessions (events.Make r ops) answer sites' sessions' × IsStanding sites' sessions')
make_ends sites sessions st r site ops c result store key there up makes signs told failed fails answers sites' sessions' same_sites same_sessions =
    subst (λ (xs : List SiteData). IfOk told (λ answer. IsStep is_luhn sites sessions (events.Make r ops) answer xs sessions' × IsStanding xs sessions')) (sym same_sites)
    (subst (λ (ts : List (Option Talk)). IfOk told (λ answer. IsStep is_luhn sites sessions (events.Make r ops) answer (set sites r (sunk_if failed (record site { store = store; key = key }))) ts
    × IsStanding (set sites r (sunk_if failed (record site { store = store; key = key }))) ts)) (sym same_sessions)
    (make_goes sites sessions st r site ops c result store key there up makes signs told failed fails answers))
