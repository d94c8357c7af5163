use Rattle.std.proofs.Common.{ℕ, Option, sym, subst}
use Rattle.std.specs.Prelude.{IfOk}
use Rattle.row_check.specs.Checksum.{is_luhn}
use Rattle.byzantine_world.specs.Events.{IsStep}
use Rattle.byzantine_world.proofs.state.State.start.Goals as goal
use Rattle.world_rules.specs.declared.event.Event.TheVariants as events

pub returns-in-None-clause-step : goal.returns-in-None-clause-step
returns-in-None-clause-step c =
    let new = c.start_with_liar.new.self in
    subst (λ (o : Option ℕ). IfOk c.start_with_liar.result (λ answer. IsStep is_luhn c.args.self.now.sites.items c.args.self.now.talks.items (events.Start c.args.session c.args.first o) answer
    new.sites.items new.talks.items)) (sym c.in-None.is) c.start_with_liar.ensures.step

pub returns-in-Some-clause-step : goal.returns-in-Some-clause-step
returns-in-Some-clause-step c =
    let new = c.start_with.new.self in
    subst (λ (o : Option ℕ). IfOk c.start_with.result (λ answer. IsStep is_luhn c.args.self.now.sites.items c.args.self.now.talks.items (events.Start c.args.session c.args.first o) answer
    new.sites.items new.talks.items)) (sym c.in-Some.is) c.start_with.ensures.step
