use Rattle.std.proofs.Common.{List, ap, sym, ◌∙◌}
use Rattle.update_model.specs.declared.update_id.UpdateId.{UpdateId}
use Rattle.update_model.specs.Graph.{has}
use Rattle.confluence_checker.proofs.Newest.{there_one}
use Rattle.confluence_checker.proofs.ancestors.add_one.Goals as goal

pub returns-then-has : goal.returns-then-has
returns-then-has c = λ other.
    there_one c.args.ids.now.items c.args.id.now (ap (λ (l : List UpdateId). has l c.args.id.now) (sym c.as_slice.ensures.value) ∙ sym c.has.ensures ∙ c.if-has.true) other
