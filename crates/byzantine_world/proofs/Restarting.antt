-- What a Restart does to what the code of a world shows.
use Rattle.std.proofs.Common.{◌≡◌, ℕ, ◌+◌, Bool, true, false, List, [], ◌++◌, length, map, set, All, Option, Some, refl, sym, ap, subst, ◌∙◌}
use Rattle.std.specs.Prelude.{is_some, slice_get, slice_set}
use Rattle.std.proofs.lemmas.List.{length-map}
use Rattle.row_check.specs.Checksum.{is_luhn}
use Rattle.byzantine_world.specs.Events.{IsStep, cut_code_with}
use Rattle.byzantine_world.specs.Standing.{IsStanding, IsTalkSound}
use Rattle.byzantine_world.specs.declared.talk.Talk.{Talk}
use Rattle.byzantine_world.proofs.Acts.{all_sound, grow_one, talks_cut, talks_same}
use Rattle.byzantine_world.proofs.Keeping.{all_cut, many_cut, one_each}
use Rattle.byzantine_world.proofs.Showing.{Grow}
use Rattle.world_rules.specs.Happens.{HappensTo, Restarts, met_by}
use Rattle.world_rules.specs.declared.event.Event.TheVariants as events
use Rattle.world_rules.specs.declared.event.Stepped.TheVariants as stepped
use Rattle.world_rules.specs.Worlds.{SiteData, WorldData, cut_with, held_by, site_at}
use Rattle.world_rules.proofs.Schemas.{SchemaLaws}
use Rattle.world_rules.proofs.Sites.{SiteMoves, restart_moves}

module _ (laws : SchemaLaws) (sites : List SiteData) (sessions : List (Option Talk)) (st : IsStanding sites sessions) (r choice : ℕ) (site new : SiteData) (there : slice_get sites r ≡ Some site)
    (restarts : Restarts is_luhn choice site new) where
  moves : SiteMoves st.schema site new
  moves = restart_moves laws is_luhn st.schema choice site new st.taken (st.each r site there).0 restarts

  grow : Grow st.schema.rule sites (set sites r new)
  grow = grow_one sites sessions st r site there new moves.extends

  sound : All (IsTalkSound st.schema.rule (set sites r new)) sessions
  sound = all_sound st.schema.rule sites (set sites r new) sessions grow st.sessions_are

  pub restart_steps : IsStep is_luhn sites sessions (events.Restart r choice) stepped.Done (set sites r new) (map (cut_code_with r) sessions)
  restart_steps w shows =
      let next : WorldData = record w { sites = slice_set w.sites r new; sessions = map (cut_with r) w.sessions; met = w.met ++ met_by w.event (held_by new); event = w.event + 1 } in
      let found : site_at w r ≡ Some site = ap (λ (xs : List SiteData). slice_get xs r) shows.sites_are ∙ there in (
        next,
        subst (λ (b : Bool). HappensTo b is_luhn w (events.Restart r choice) stepped.Done next) (sym (ap is_some found))
            (record { site = site; there = found; new = new; restarts = restarts; done = refl; is = refl }),
        record {
          sites_are = ap (λ (xs : List SiteData). set xs r new) shows.sites_are;
          sessions_are = ap (map (cut_with r)) (shows.sessions_are ∙ sym (talks_same st.schema.rule sites (set sites r new) sessions grow st.sessions_are))
              ∙ talks_cut st.schema.rule (set sites r new) r sessions sound;
        },
      )

  pub restart_stands : IsStanding (set sites r new) (map (cut_code_with r) sessions)
  restart_stands = record {
    schema = st.schema;
    taken = st.taken;
    each = one_each sites sessions st r site new false there moves (ap length restarts.remembered ∙ length-map site.remembered (λ ids. []));
    sessions_are = all_cut st.schema.rule (set sites r new) true r sessions sound;
    numbers = many_cut true r sessions ∙ st.numbers;
  }
