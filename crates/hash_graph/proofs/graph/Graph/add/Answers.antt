use Rattle.std.proofs.Common.{map, not, ap, sym, ◌∙◌}
use Rattle.std.specs.Prelude.{find}
use Rattle.update_model.specs.declared.update_id.UpdateId.{UpdateId}
use Rattle.update_model.specs.Graph.{holds, position_of}
use Rattle.update_model.proofs.Closed.{IsNext-from_tests}
use Rattle.hash_graph.proofs.Least.{least_lacking}
use Rattle.hash_graph.proofs.graph.Graph.add.Goals as goal

pub push-requires-clause-next : goal.push-requires-clause-next
push-requires-clause-next g c =
    let graph = map g.M.Member.entry c.args.self.now in
    let none = c.in_default-first_not_held.ensures ∙ ap (find (λ (id : UpdateId). not (holds graph id))) c.preds.ensures.value in
    IsNext-from_tests graph (g.M.Member.entry c.args.member)
    (ap (λ (id : UpdateId). position_of graph id) (sym c.id.ensures) ∙ sym c.in_default.ensures)
    (sym none)

pub returns-in-Some-first_not_held-clause-least : goal.returns-in-Some-first_not_held-clause-least
returns-in-Some-first_not_held-clause-least g c =
    let graph = map g.M.Member.entry c.args.self.now in
    let first = c.in-Some-first_not_held.ensures ∙ ap (find (λ (id : UpdateId). not (holds graph id))) c.preds.ensures.value in
    least_lacking graph (g.M.Member.entry c.args.member) c.in-Some-first_not_held.id (rw c.preds.ensures.value at c.preds.ensures.rising) (sym first)
