use Rattle.std.proofs.Common.{ℕ, List, All, sym, subst}
use Rattle.std.proofs.lemmas.List.Elements.{All-push}
use Rattle.update_check.specs.Signed.{IsChecked}
use Rattle.session_bench.proofs.holding.read_updates.Goals as goal

pub records-preserved : goal.records-preserved
records-preserved g c =
    subst (λ (l : List (List ℕ)). All (IsChecked c.args.rule.now) l) (sym c.in_ok-push-in-Whole.ensures.items)
    (All-push (IsChecked c.args.rule.now) c.records.updates.items c.in_ok-check-in-Whole.field-0 c.records.invariant c.in_ok-check-in-Whole.ensures.found)
