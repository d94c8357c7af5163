use Rattle.std.proofs.Common.{All, sym, subst}
use Rattle.std.proofs.lemmas.List.Elements.{All-push}
use Rattle.update_check.specs.Signed.{IsChecked}
use Rattle.tests_of_updates.proofs.entries.checked.Goals as goal

pub updates-preserved : goal.updates-preserved
updates-preserved c =
    subst (All (IsChecked c.args.rule.now)) (sym c.in_ok-push.ensures.items)
    (All-push (IsChecked c.args.rule.now) c.updates.batch.items c.in_ok-check.field-0 c.updates.invariant c.in_ok-check.ensures.found)
