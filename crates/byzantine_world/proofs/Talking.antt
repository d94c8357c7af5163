-- What is shown when a replica goes on by one of its sessions.
use Rattle.std.proofs.Common.{◌≡◌, ℕ, Bool, true, false, List, length, map, set, All, Option, Some, sym, ap, subst, ◌∙◌, length-set}
use Rattle.std.specs.Prelude.{option_map, slice_get}
use Rattle.std.proofs.lemmas.List.{map-set}
use Rattle.std.proofs.lemmas.List.Elements.{All-set}
use Rattle.byzantine_world.specs.Codes.{Shows, list_at, list_of, talk_over}
use Rattle.byzantine_world.specs.Events.{cut_where}
use Rattle.byzantine_world.specs.Standing.{IsStanding, IsTalkSound}
use Rattle.byzantine_world.specs.declared.talk.Talk.{Talk}
use Rattle.byzantine_world.proofs.Acts.{all_sound, grow_one, talks_cut, talks_same}
use Rattle.byzantine_world.proofs.Keeping.{all_cut, many_cut, one_each}
use Rattle.byzantine_world.proofs.Showing.{Grow}
use Rattle.world_rules.specs.Happens.{ending}
use Rattle.world_rules.specs.Lists.{Extends}
use Rattle.world_rules.specs.Worlds.{SessionOf, SiteData, WorldData, cut_with, held_by, sunk}
use Rattle.world_rules.proofs.Moving.{sunk_held, sunk_if}
use Rattle.world_rules.proofs.Places.{set_here}
use Rattle.world_rules.proofs.Sites.{SiteMoves}

module _ (sites : List SiteData) (sessions : List (Option Talk)) (st : IsStanding sites sessions) (r : ℕ) (site new : SiteData) (failed : Bool) (there : slice_get sites r ≡ Some site)
    (e : Extends st.schema.rule (held_by site) (held_by new)) where
  pub extends_last : Extends st.schema.rule (held_by site) (held_by (sunk_if failed new))
  extends_last = subst (λ (xs : List (List ℕ)). Extends st.schema.rule (held_by site) xs) (sym (sunk_held failed new)) e

  pub grows : Grow st.schema.rule sites (set sites r (sunk_if failed new))
  grows = grow_one sites sessions st r site there (sunk_if failed new) extends_last

  -- what the replica holds now
  pub list_now : list_at (set sites r (sunk_if failed new)) r ≡ held_by new
  list_now = ap list_of (set_here sites r (sunk_if failed new) site there) ∙ sunk_held failed new

  -- all sessions and the one that is new here
  pub all_new : (s : ℕ) (talk : Talk) → IsTalkSound st.schema.rule (set sites r (sunk_if failed new)) (Some talk)
      → All (IsTalkSound st.schema.rule (set sites r (sunk_if failed new))) (set sessions s (Some talk))
  all_new s talk sound =
      All-set (IsTalkSound st.schema.rule (set sites r (sunk_if failed new))) sessions s (Some talk) sound
      (all_sound st.schema.rule sites (set sites r (sunk_if failed new)) sessions grows st.sessions_are)

  shown_set : (s : ℕ) (talk : Talk) (w mid : WorldData) → Shows sites sessions w → mid.sessions ≡ set w.sessions s (Some (talk_over (set sites r (sunk_if failed new)) talk))
      → mid.sessions ≡ map (option_map (talk_over (set sites r (sunk_if failed new)))) (set sessions s (Some talk))
  shown_set s talk w mid shows is =
      let over = option_map (talk_over (set sites r (sunk_if failed new))) in
      is ∙ ap (λ (xs : List (Option SessionOf)). set xs s (Some (talk_over (set sites r (sunk_if failed new)) talk)))
      (shows.sessions_are ∙ sym (talks_same st.schema.rule sites (set sites r (sunk_if failed new)) sessions grows st.sessions_are))
      ∙ sym (map-set over sessions s (Some talk))

-- what is shown, where the replica failed and where it did not
pub talk_shows : (sites : List SiteData) (sessions : List (Option Talk)) (st : IsStanding sites sessions) (r : ℕ) (site new : SiteData) (failed : Bool) → slice_get sites r ≡ Some site
    → Extends st.schema.rule (held_by site) (held_by new) → (s : ℕ) (talk : Talk) → IsTalkSound st.schema.rule (set sites r (sunk_if failed new)) (Some talk) → (w mid : WorldData)
    → Shows sites sessions w → mid.sites ≡ w.sites → mid.sessions ≡ set w.sessions s (Some (talk_over (set sites r (sunk_if failed new)) talk))
    → Shows (set sites r (sunk_if failed new)) (cut_where failed r (set sessions s (Some talk))) (ending failed r new mid)
talk_shows sites sessions st r site new true there e s talk sound w mid shows same is = record {
  sites_are = ap (λ (xs : List SiteData). set xs r (sunk new)) (same ∙ shows.sites_are);
  sessions_are = ap (map (cut_with r)) (shown_set sites sessions st r site new true there e s talk w mid shows is)
      ∙ talks_cut st.schema.rule (set sites r (sunk new)) r (set sessions s (Some talk)) (all_new sites sessions st r site new true there e s talk sound);
}
talk_shows sites sessions st r site new false there e s talk sound w mid shows same is = record {
  sites_are = ap (λ (xs : List SiteData). set xs r new) (same ∙ shows.sites_are);
  sessions_are = shown_set sites sessions st r site new false there e s talk w mid shows is;
}

-- what stands
pub talk_stands : (sites : List SiteData) (sessions : List (Option Talk)) (st : IsStanding sites sessions) (r : ℕ) (site new : SiteData) (failed : Bool) → slice_get sites r ≡ Some site
    → (s : ℕ) (talk : Talk) → SiteMoves st.schema site new → length new.remembered ≡ length site.remembered
    → IsTalkSound st.schema.rule (set sites r (sunk_if failed new)) (Some talk)
    → IsStanding (set sites r (sunk_if failed new)) (cut_where failed r (set sessions s (Some talk)))
talk_stands sites sessions st r site new failed there s talk moves many sound =
    record {
      schema = st.schema;
      taken = st.taken;
      each = one_each sites sessions st r site new failed there moves many;
      sessions_are = all_cut st.schema.rule (set sites r (sunk_if failed new)) failed r (set sessions s (Some talk)) (all_new sites sessions st r site new failed there moves.extends s talk sound);
      numbers = many_cut failed r (set sessions s (Some talk)) ∙ length-set sessions s (Some talk) ∙ st.numbers;
    }
