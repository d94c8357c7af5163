use Rattle.std.proofs.Common.{ℕ, List, sym, subst}
use Rattle.std.specs.Prelude.{IfOk}
use Rattle.row_check.specs.Checksum.{is_luhn}
use Rattle.byzantine_world.specs.Events.{IsStep}
use Rattle.byzantine_world.proofs.state.State.happen.Goals as goal
use Rattle.world_rules.specs.declared.event.Event.{Event}
use Rattle.world_rules.specs.declared.event.Event.TheVariants as events

pub returns-in-Make-clause-step : goal.returns-in-Make-clause-step
returns-in-Make-clause-step c = subst (λ (e : Event). IfOk c.make.result (λ answer. IsStep is_luhn c.args.self.now.sites.items c.args.self.now.talks.items e answer c.make.new.self.sites.items c.make.new.self.talks.items)) (sym c.in-Make.is) c.make.ensures.step

pub returns-in-Start-clause-step : goal.returns-in-Start-clause-step
returns-in-Start-clause-step c = subst (λ (e : Event). IfOk c.start.result (λ answer. IsStep is_luhn c.args.self.now.sites.items c.args.self.now.talks.items e answer c.start.new.self.sites.items c.start.new.self.talks.items)) (sym c.in-Start.is) c.start.ensures.step

pub returns-in-Carry-clause-step : goal.returns-in-Carry-clause-step
returns-in-Carry-clause-step c = subst (λ (e : Event). IfOk c.carry.result (λ answer. IsStep is_luhn c.args.self.now.sites.items c.args.self.now.talks.items e answer c.carry.new.self.sites.items c.carry.new.self.talks.items)) (sym c.in-Carry.is) c.carry.ensures.step

pub returns-in-Cut-clause-step : goal.returns-in-Cut-clause-step
returns-in-Cut-clause-step c = subst (λ (e : Event). IsStep is_luhn c.args.self.now.sites.items c.args.self.now.talks.items e c.cut.result c.cut.new.self.sites.items c.cut.new.self.talks.items) (sym c.in-Cut.is) c.cut.ensures.step

pub returns-in-Feed-clause-step : goal.returns-in-Feed-clause-step
returns-in-Feed-clause-step c =
    let new = c.feed.new.self in
    subst (λ (e : Event). IfOk c.feed.result (λ answer. IsStep is_luhn c.args.self.now.sites.items c.args.self.now.talks.items e answer new.sites.items new.talks.items)) (sym c.in-Feed.is)
    (subst (λ (bytes : List ℕ). IfOk c.feed.result (λ answer. IsStep is_luhn c.args.self.now.sites.items c.args.self.now.talks.items (events.Feed c.in-Feed.session bytes) answer new.sites.items new.talks.items))
    c.as_slice.ensures c.feed.ensures.step)

pub returns-in-Stop-clause-step : goal.returns-in-Stop-clause-step
returns-in-Stop-clause-step c = subst (λ (e : Event). IsStep is_luhn c.args.self.now.sites.items c.args.self.now.talks.items e c.stop.result c.stop.new.self.sites.items c.stop.new.self.talks.items) (sym c.in-Stop.is) c.stop.ensures.step

pub returns-in-Restart-clause-step : goal.returns-in-Restart-clause-step
returns-in-Restart-clause-step c = subst (λ (e : Event). IfOk c.restart.result (λ answer. IsStep is_luhn c.args.self.now.sites.items c.args.self.now.talks.items e answer c.restart.new.self.sites.items c.restart.new.self.talks.items)) (sym c.in-Restart.is) c.restart.ensures.step
