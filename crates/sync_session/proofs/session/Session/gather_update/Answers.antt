use Rattle.std.proofs.Common.{◌∙◌, refl, sym}
use Rattle.sync_session.proofs.Anywhere.{failed_stays, item_runs, over_gathers, over_stays, running_gathers, running_stays}
use Rattle.sync_session.proofs.session.Session.gather_update.Goals as goal

pub returns-then-is_over-clause-gathers : goal.returns-then-is_over-clause-gathers
returns-then-is_over-clause-gathers c = over_gathers c.args.self.now c.args.update c.silent.result (sym c.is_over.ensures ∙ c.if-is_over.true) c.silent.ensures

pub returns-then-is_over-clause-stays : goal.returns-then-is_over-clause-stays
returns-then-is_over-clause-stays c = over_stays c.args.self.now c.args.update

pub take_item-requires : goal.take_item-requires
take_item-requires c = item_runs c.args.self.now (sym c.is_over.ensures ∙ c.if-is_over.false) c.requires.belongs

pub returns-in-Ok-clause-gathers : goal.returns-in-Ok-clause-gathers
returns-in-Ok-clause-gathers c = running_gathers c.args.self.now c.take_item.new.self c.args.update (sym c.is_over.ensures ∙ c.if-is_over.false) c.in-Ok.out c.in-Ok.ensures.below c.in-Ok.ensures.failed c.in-Ok.ensures.takes

pub returns-in-Ok-clause-stays : goal.returns-in-Ok-clause-stays
returns-in-Ok-clause-stays c =
    running_stays c.args.self.now c.take_item.new.self c.args.update (sym c.is_over.ensures ∙ c.if-is_over.false) c.in-Ok.out c.in-Ok.ensures.below c.in-Ok.ensures.failed c.in-Ok.ensures.takes c.in-Ok.ensures.stands

pub returns-in-Err-clause-stays : goal.returns-in-Err-clause-stays
returns-in-Err-clause-stays c = failed_stays c.args.self.now _ c.args.update refl
