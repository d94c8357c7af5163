-- How a world begins.
use Rattle.std.proofs.Common.{◌≡◌, ◌⊎◌, inl, inr, ℕ, ◌≤◌, false, List, [], ◌∷◌, ◌++◌, length, map, All, Option, Some, None, refl, sym, ap, ap₂, subst, ◌∙◌, arith}
use Rattle.std.specs.Prelude.{option_map, slice_get}
use Rattle.std.proofs.lemmas.List.{length-map}
use Rattle.std.proofs.lemmas.List.Elements.{All-append, All-cons, All-nil}
use Rattle.std.proofs.lemmas.Option.{get_or_from_slice_get, slice_get-map, slice_get_within}
use Rattle.row_check.specs.Checksum.{is_luhn}
use Rattle.confluence_test.specs.Taking.{RefusesSchema}
use Rattle.confluence_test.specs.declared.refusal.SchemaRefusal.{SchemaRefusal}
use Rattle.confluence_test.specs.declared.refusal.SchemaRefusal.TheVariants as refusals
use Rattle.lms_tree.specs.declared.seed.KeyTypes.{KeyTypes}
use Rattle.schema.specs.Data.{SchemaData}
use Rattle.schema_text.specs.Schemas.{Declares}
use Rattle.byzantine_world.specs.Begun.{AreNone, IsBegun, IsNewOf, IsWorldCause, refusal_fault}
use Rattle.byzantine_world.specs.Codes.{WorldCode, talk_over}
use Rattle.byzantine_world.specs.Standing.{IsStanding, IsTalkSound}
use Rattle.byzantine_world.specs.declared.talk.Talk.{Talk}
use Rattle.world_rules.specs.Drawn.{HaveDrawnKeys}
use Rattle.world_rules.specs.Happens.{IsNew, IsNewSite, begins}
use Rattle.world_rules.specs.Worlds.{SiteData, WorldData, flat}
use Rattle.world_rules.proofs.Schemas.{SchemaLaws}
use Rattle.world_rules.specs.declared.fault.SiteFault.TheVariants as sites
use Rattle.world_rules.proofs.Standing.{stands_always}

-- an element that is there
pub all_at : {X : Type 0} (P : X → Type 0) (xs : List X) (i : ℕ) (x : X) → All P xs → slice_get xs i ≡ Some x → P x
all_at P xs i x all is = subst P (get_or_from_slice_get xs i x x is) (all i x (slice_get_within xs i x is))

-- where no session was started, none is there
none_there : (sites : List SiteData) (talks : List (Option Talk)) → AreNone talks → (s : ℕ) → flat (slice_get (map (option_map (talk_over sites)) talks) s) ≡ None
none_there sites talks none s = ap flat (slice_get-map (option_map (talk_over sites)) talks s) ∙ by_place (slice_get talks s) refl
  where
    by_place : (found : Option (Option Talk)) → slice_get talks s ≡ found → flat (option_map (option_map (talk_over sites)) found) ≡ None
    by_place None is = refl
    by_place (Some talk) is = ap (option_map (talk_over sites)) (all_at (λ (t : Option Talk). t ≡ None) talks s talk none is)

declares_of : (text : List ℕ) (count : ℕ) (site : SiteData) → IsNewOf text count site → Declares is_luhn text site.store.history.schema
declares_of text count site n = subst (λ (t : List ℕ). Declares is_luhn t site.store.history.schema) n.text_is n.new.created.taken.declares

module _ (laws : SchemaLaws) (text : List ℕ) (count : ℕ) (sites : List SiteData) (talks : List (Option Talk)) (site : SiteData) (few : count ≤ 16) (many : length sites ≡ count)
    (new : All (IsNewOf text count) sites) (free : length talks ≡ 256) (none : AreNone talks) (there : slice_get sites 0 ≡ Some site) where
  abbrev schema : SchemaData
  schema = site.store.history.schema

  head : IsNewOf text count site
  head = all_at (IsNewOf text count) sites 0 site new there

  abbrev first : WorldData
  first = record { sites = sites; sessions = map (option_map (talk_over sites)) talks; signed = []; met = []; event = 0 }

  each_new : (r : ℕ) (other : SiteData) → slice_get sites r ≡ Some other → IsNewSite is_luhn schema other
  each_new r other is =
      let n = all_at (IsNewOf text count) sites r other new is in
      subst (λ (x : SchemaData). IsNewSite is_luhn x other) (laws.one is_luhn text other.store.history.schema schema (declares_of text count other n) (declares_of text count site head)) n.new

  is_new : IsNew is_luhn schema first
  is_new = record {
    taken = head.new.created.taken;
    some_sites = slice_get_within sites 0 site there;
    few_sites = subst (λ n. n ≤ 16) (sym many) few;
    numbers = length-map talks (option_map (talk_over sites)) ∙ free;
    sites = each_new;
    sessions = none_there sites talks none;
    signed = refl;
    met = refl;
  }

  pub begun : (types : KeyTypes) (number : ℕ) (code : WorldCode) → HaveDrawnKeys types number sites → code.sites ≡ sites → code.talks ≡ talks → code.is_over ≡ false
      → IsBegun is_luhn text count types number code
  begun types number code keys sites_are talks_are runs = record {
    schema = schema;
    world = first;
    new = is_new;
    shows = record {
      sites_are = sym sites_are;
      sessions_are = ap₂ (λ (xs : List SiteData) (ts : List (Option Talk)). map (option_map (talk_over xs)) ts) (sym sites_are) (sym talks_are);
    };
    text_is = head.text_is;
    count_is = many;
    keys = keys;
    runs = runs;
  }

  pub begun_stands : IsStanding sites talks
  begun_stands =
      let stands = stands_always laws is_luhn schema first (first, is_new, begins first refl) in
      record {
        schema = schema;
        taken = head.new.created.taken;
        each = λ r other is. (stands.sound.sites r other is, (all_at (IsNewOf text count) sites r other new is).many ∙ sym many);
        sessions_are = λ k d low. subst (IsTalkSound schema.rule sites) (sym (none k d low)) tt;
        numbers = free;
      }

-- ---- of one replica at least

first_there : (sites : List SiteData) → 1 ≤ length sites → (site : SiteData) × (slice_get sites 0 ≡ Some site)
first_there [] low = let none : 1 ≤ 0 = low in absurd (omega arith)
first_there (site ∷ sites) low = (site, refl)

pub begins_with : SchemaLaws → (text : List ℕ) (count : ℕ) (types : KeyTypes) (number : ℕ) (sites : List SiteData) (talks : List (Option Talk)) → 1 ≤ count → count ≤ 16 → length sites ≡ count
    → All (IsNewOf text count) sites → HaveDrawnKeys types number sites → length talks ≡ 256 → AreNone talks
    → IsBegun is_luhn text count types number (record { sites = sites; talks = talks; is_over = false })
begins_with laws text count types number sites talks some few many new keys free none =
    let first = first_there sites (subst (λ n. 1 ≤ n) (sym many) some) in
    begun laws text count sites talks first.0 few many new free none first.1 types number (record { sites = sites; talks = talks; is_over = false }) keys refl refl refl

pub stands_first : SchemaLaws → (text : List ℕ) (count : ℕ) (sites : List SiteData) (talks : List (Option Talk)) → 1 ≤ count → count ≤ 16 → length sites ≡ count → All (IsNewOf text count) sites
    → length talks ≡ 256 → AreNone talks → IsStanding sites talks
stands_first laws text count sites talks some few many new free none =
    let first = first_there sites (subst (λ n. 1 ≤ n) (sym many) some) in
    begun_stands laws text count sites talks first.0 few many new free none first.1

-- ---- one more

pub new_more : (text : List ℕ) (count : ℕ) (sites : List SiteData) (site : SiteData) → All (IsNewOf text count) sites → IsNewSite is_luhn site.store.history.schema site → site.store.history.schema.text ≡ text
    → length site.remembered ≡ count → All (IsNewOf text count) (sites ++ site ∷ [])
new_more text count sites site all new text_is many =
    All-append (IsNewOf text count) sites (site ∷ []) all (All-cons (IsNewOf text count) site [] (record { new = new; text_is = text_is; many = many }) (All-nil (IsNewOf text count)))

-- ---- why there is no world

pub refusal_cause : (text : List ℕ) (refusal : SchemaRefusal) → RefusesSchema is_luhn text refusal ⊎ (refusal ≡ refusals.Memory) → (count : ℕ) → IsWorldCause is_luhn text count (refusal_fault refusal)
refusal_cause text (refusals.Schema fault) (inl refuses) count = (fault, refuses)
refusal_cause text (refusals.Schema fault) (inr memory) count = absurd cc
refusal_cause text (refusals.NotConfluent declared which example) (inl refuses) count = (declared, which, example, refuses)
refusal_cause text (refusals.NotConfluent declared which example) (inr memory) count = absurd cc
refusal_cause text refusals.Memory cause count = tt
