use Rattle.std.proofs.Common.{Err, ap, rules, subst, sym}
use Rattle.outcomes.specs.declared.refusal.Refusal.{Refusal}
use Rattle.watch_command.specs.Steps.{RefusesQuery}
use Rattle.watch_command.proofs.Opening.{not_opened}
use Rattle.watch_command.proofs.watching.open_view.Goals as goal

pub returns-in-Err-clause-refused : goal.returns-in-Err-clause-refused
returns-in-Err-clause-refused g c =
    let schema = c.args.replica.now.history.schema in
    subst (λ (w : Refusal). RefusesQuery schema c.args.what.now.text.now w) (sym c.not_watched.ensures)
    (not_opened schema c.args.what.now.text.now _ c.in-Err.error (search rules) (λ is. c.in-Err.ensures.not_named (ap Err is)))
