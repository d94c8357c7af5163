use Rattle.std.proofs.Common.{◌∙◌, ℕ, List, length, length-append, sym, ap, subst, arith}
use Rattle.history.specs.Kept.{AreViewsOf}
use Rattle.history.proofs.Fronts.{views_of_longer}
use Rattle.history.proofs.growing.add_and_take.Goals as goal

pub take_from-requires-clause-low : goal.take_from-requires-clause-low
take_from-requires-clause-low g c =
    let behind = c.add_ready-answer.ensures.behind in
    let size = ap length behind.1 ∙ length-append c.args.graph.now behind.0 in omega (arith, size)

pub take_from-requires-clause-views : goal.take_from-requires-clause-views
take_from-requires-clause-views g c κs within =
    let behind = c.add_ready-answer.ensures.behind in
    subst (λ (n : ℕ). AreViewsOf g.L.Relation.answer c.args.schema.now c.add_ready-answer.new.graph n c.args.views.now) (sym c.len-len.ensures.value)
    (subst (λ (l : List (List ℕ)). AreViewsOf g.L.Relation.answer c.args.schema.now l (length c.args.graph.now) c.args.views.now) (sym behind.1)
    (views_of_longer g.L.Relation.answer c.args.schema.now c.args.graph.now behind.0 c.args.views.now c.len-len.ensures.closed c.requires.views))

pub returns-in-Err-clause-none : goal.returns-in-Err-clause-none
returns-in-Err-clause-none g c =
    let behind = c.add_ready-answer.ensures.behind in
    subst (λ (l : List (List ℕ)). AreViewsOf g.L.Relation.answer c.args.schema.now l (length c.args.graph.now) c.args.views.now) (sym behind.1)
    (views_of_longer g.L.Relation.answer c.args.schema.now c.args.graph.now behind.0 c.args.views.now c.len-len.ensures.closed c.requires.views)
