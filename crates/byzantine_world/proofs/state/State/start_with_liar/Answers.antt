use Rattle.std.proofs.Common.{◌≡◌, [], Some, None, set, sym, subst, ◌∙◌}
use Rattle.std.proofs.lemmas.Option.{get_or_from_slice_get}
use Rattle.row_check.specs.Checksum.{is_luhn}
use Rattle.session_rules.specs.declared.role.Role.TheVariants.{Initiator}
use Rattle.byzantine_world.specs.Events.{IsStep}
use Rattle.byzantine_world.specs.Sessions.{Begins}
use Rattle.byzantine_world.specs.Standing.{IsStanding}
use Rattle.byzantine_world.specs.declared.talk.Talk.{Talk}
use Rattle.byzantine_world.proofs.Made.{up_site}
use Rattle.byzantine_world.proofs.Starting.{liar_stands, liar_steps, liar_talk_is}
use Rattle.byzantine_world.proofs.state.State.start_with_liar.Goals as goal
use Rattle.world_rules.specs.Worlds.{SiteData}
use Rattle.world_rules.specs.declared.event.Event.TheVariants as events
use Rattle.world_rules.specs.declared.event.Stepped.TheVariants as stepped

pub returns-clause-step : goal.returns-clause-step
returns-clause-step c =
    let sites = c.args.self.now.sites.items in
    let all = c.args.self.now.talks.items in
    let first = c.args.first in
    let up = sym c.is_up.ensures ∙ c.if-not-is_up.false in
    let one = up_site sites first up in
    let here : c.index.result.now ≡ one.0 = c.index.ensures ∙ get_or_from_slice_get sites first one.0 _ one.1 in
    let begins = subst (λ (s : SiteData). Begins Initiator s [] c.in_ok-end.end c.in_ok-end.field-0-1) here c.in_ok-end.ensures in
    rw (c.put.ensures.sites, c.put.ensures.talks)
    (subst (λ (t : Talk). IsStep is_luhn sites all (events.Start c.args.session first None) stepped.Done sites (set all c.args.session (Some t))) (sym (liar_talk_is first begins.begun c.in_ok-end.end c.new.result begins.side_is c.new.ensures))
    (liar_steps sites all c.requires.stands c.args.session first begins.begun begins.gives one.0 one.1 begins.starts c.requires.free up))

pub returns-clause-stands : goal.returns-clause-stands
returns-clause-stands c =
    let sites = c.args.self.now.sites.items in
    let all = c.args.self.now.talks.items in
    let first = c.args.first in
    let one = up_site sites first (sym c.is_up.ensures ∙ c.if-not-is_up.false) in
    let here : c.index.result.now ≡ one.0 = c.index.ensures ∙ get_or_from_slice_get sites first one.0 _ one.1 in
    let begins = subst (λ (s : SiteData). Begins Initiator s [] c.in_ok-end.end c.in_ok-end.field-0-1) here c.in_ok-end.ensures in
    rw (c.put.ensures.sites, c.put.ensures.talks)
    (subst (λ (t : Talk). IsStanding sites (set all c.args.session (Some t))) (sym (liar_talk_is first begins.begun c.in_ok-end.end c.new.result begins.side_is c.new.ensures))
    (liar_stands sites all c.requires.stands c.args.session first begins.begun begins.gives one.0 one.1 begins.starts begins.belongs))
