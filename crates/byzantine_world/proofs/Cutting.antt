-- What a Stop and a Cut do to what the code of a world shows.
use Rattle.std.proofs.Common.{◌≡◌, ℕ, ◌+◌, ◌&&◌, ◌||◌, Bool, true, false, List, set, Option, Some, refl, sym, ap, ap₂, subst, ◌∙◌}
use Rattle.std.specs.Prelude.{is_some, not, option_map, slice_get}
use Rattle.std.proofs.lemmas.List.{map-set}
use Rattle.std.proofs.lemmas.Option.{slice_get-map}
use Rattle.row_check.specs.Checksum.{is_luhn}
use Rattle.byzantine_world.specs.Codes.{Shows, cut_talk, end_over, is_over_code, is_over_talk, list_at, talk_over}
use Rattle.byzantine_world.specs.Events.{IsStep}
use Rattle.byzantine_world.specs.Standing.{IsSideSound, IsTalkSound}
use Rattle.byzantine_world.specs.declared.talk.Side.{Side}
use Rattle.byzantine_world.specs.declared.talk.Talk.{Talk}
use Rattle.byzantine_world.specs.declared.talk.Talk.TheVariants as talks
use Rattle.byzantine_world.proofs.Showing.{cut_shown}
use Rattle.update_model.specs.Rule.{RuleData}
use Rattle.world_rules.specs.Happens.{HappensTo, can_cut, finds}
use Rattle.session_rules.specs.declared.end.End.{End}
use Rattle.world_rules.specs.declared.event.Event.{Event}
use Rattle.world_rules.specs.declared.event.Event.TheVariants as events
use Rattle.world_rules.specs.declared.event.Stepped.TheVariants as stepped
use Rattle.world_rules.specs.Worlds.{SessionOf, SiteData, WorldData, cut, flat, is_over, is_up, session_at}

-- ---- nothing happens

-- where an event finds nothing, nothing changes
pub none_steps : (sites : List SiteData) (sessions : List (Option Talk)) (event : Event) → ((w : WorldData) → Shows sites sessions w → finds w event ≡ false)
    → IsStep is_luhn sites sessions event stepped.NoSuch sites sessions
none_steps sites sessions event lacks w s = (w, subst (λ (b : Bool). HappensTo b is_luhn w event stepped.NoSuch w) (sym (lacks w s)) (refl, refl), s)

-- ---- Stop

pub stop_steps : (sites : List SiteData) (sessions : List (Option Talk)) (r calls : ℕ) → is_up (slice_get sites r) ≡ true → IsStep is_luhn sites sessions (events.Stop r calls) stepped.Done sites sessions
stop_steps sites sessions r calls up w s = (
  record w { event = w.event + 1 },
  subst (λ (b : Bool). HappensTo b is_luhn w (events.Stop r calls) stepped.Done (record w { event = w.event + 1 }))
      (sym (ap (λ (xs : List SiteData). is_up (slice_get xs r)) s.sites_are ∙ up)) (record { done = refl; is = refl }),
  record { sites_are = s.sites_are; sessions_are = s.sessions_are },
)

-- ---- Cut

pub over_shown : (rule : RuleData) (sites : List SiteData) (q : ℕ) (side : Side) → IsSideSound rule (list_at sites q) side → is_over (end_over sites q side) ≡ is_over_code side
over_shown rule sites q side s = ap (λ (e : Option End). is_some e || side.is_cut) s.told

pub can_cut_shown : (rule : RuleData) (sites : List SiteData) (talk : Talk) → IsTalkSound rule sites (Some talk) → can_cut (Some (talk_over sites talk)) ≡ not (is_over_talk talk)
can_cut_shown rule sites (talks.Both both) s =
    ap₂ (λ (a b : Bool). not (a && b)) (over_shown rule sites both.first both.a s.a) (over_shown rule sites both.second both.b s.b)
can_cut_shown rule sites (talks.Liar liar) s = ap not (over_shown rule sites liar.first liar.end s.end)

-- the session of a number, as it is shown
pub session_shown : (sites : List SiteData) (sessions : List (Option Talk)) (w : WorldData) (s : ℕ) → Shows sites sessions w → session_at w s ≡ flat (option_map (option_map (talk_over sites)) (slice_get sessions s))
session_shown sites sessions w s shows =
    ap (λ (xs : List (Option SessionOf)). flat (slice_get xs s)) shows.sessions_are ∙ ap flat (slice_get-map (option_map (talk_over sites)) sessions s)

pub cut_steps : (rule : RuleData) (sites : List SiteData) (sessions : List (Option Talk)) (s : ℕ) (talk : Talk) → slice_get sessions s ≡ Some (Some talk) → IsTalkSound rule sites (Some talk)
    → is_over_talk talk ≡ false → IsStep is_luhn sites sessions (events.Cut s) stepped.Done sites (set sessions s (Some (cut_talk talk)))
cut_steps rule sites sessions s talk there sound runs w shows =
    let found : session_at w s ≡ Some (talk_over sites talk) =
    session_shown sites sessions w s shows ∙ ap (λ (o : Option (Option Talk)). flat (option_map (option_map (talk_over sites)) o)) there in
    let next : WorldData = record w { sessions = set w.sessions s (Some (cut (talk_over sites talk))); event = w.event + 1 } in (
      next,
      subst (λ (b : Bool). HappensTo b is_luhn w (events.Cut s) stepped.Done next) (sym (ap can_cut found ∙ can_cut_shown rule sites talk sound ∙ ap not runs))
          (record { session = talk_over sites talk; there = found; done = refl; is = refl }),
      record {
        sites_are = shows.sites_are;
        sessions_are = ap₂ (λ (xs : List (Option SessionOf)) (x : SessionOf). set xs s (Some x)) shows.sessions_are (cut_shown rule sites talk sound)
            ∙ sym (map-set (option_map (talk_over sites)) sessions s (Some (cut_talk talk)));
      },
    )
