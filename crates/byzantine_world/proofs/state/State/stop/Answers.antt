use Rattle.std.proofs.Common.{◌≡◌, List, set, sym, ap, subst, ◌∙◌}
use Rattle.std.proofs.lemmas.Option.{get_or_from_slice_get}
use Rattle.row_check.specs.Checksum.{is_luhn}
use Rattle.byzantine_world.specs.Events.{IsStep}
use Rattle.byzantine_world.proofs.Cutting.{stop_steps}
use Rattle.byzantine_world.proofs.Goes.{set_same}
use Rattle.byzantine_world.proofs.Made.{up_site}
use Rattle.byzantine_world.proofs.state.State.stop.Goals as goal
use Rattle.world_rules.specs.Worlds.{SiteData}
use Rattle.world_rules.specs.declared.event.Event.TheVariants as events
use Rattle.world_rules.specs.declared.event.Stepped.TheVariants as stepped

pub returns-clause-step : goal.returns-clause-step
returns-clause-step c =
    let sites = c.args.self.now.sites.items in
    let talks = c.args.self.now.talks.items in
    let r = c.args.replica in
    let up = sym c.is_up.ensures ∙ c.if-not-is_up.false in
    let one = up_site sites r up in
    let same : c.arm.new.self ≡ one.0 = c.arm.ensures ∙ c.index_mut.ensures.value ∙ get_or_from_slice_get sites r one.0 _ one.1 in
    subst (λ (xs : List SiteData). IsStep is_luhn sites talks (events.Stop r c.args.calls) stepped.Done xs talks) (sym (ap (λ (s : SiteData). set sites r s) same ∙ set_same sites r one.0 one.1))
    (stop_steps sites talks r c.args.calls up)
