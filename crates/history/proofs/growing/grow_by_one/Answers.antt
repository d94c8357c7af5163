use Rattle.std.proofs.Common.{◌∙◌, ℕ, List, [], ◌∷◌, length, take, sym, ap, subst}
use Rattle.std.proofs.lemmas.List.{take_at}
use Rattle.history.specs.declared.views.Views.{Views}
use Rattle.history.specs.Kept.{AreViewsOf}
use Rattle.history.proofs.Fronts.{views_of_longer}
use Rattle.history.proofs.growing.grow_by_one.Goals as goal

pub returns-in_err-add_last-clause-views : goal.returns-in_err-add_last-clause-views
returns-in_err-add_last-clause-views g c =
    subst (λ (l : List (List ℕ)). AreViewsOf g.L.Relation.answer c.args.schema.now l (length l) c.args.views.now) (sym c.in_err-add_last.ensures.same) c.requires.views

pub take-requires-clause-views : goal.take-requires-clause-views
take-requires-clause-views g c κs within =
    subst (λ (n : ℕ). AreViewsOf g.L.Relation.answer c.args.schema.now c.add_last.new.graph n c.args.views.now) (sym c.len-len.ensures.value)
    (subst (λ (l : List (List ℕ)). AreViewsOf g.L.Relation.answer c.args.schema.now l (length c.args.graph.now) c.args.views.now) (sym c.in_ok-add_last.ensures.added)
    (views_of_longer g.L.Relation.answer c.args.schema.now c.args.graph.now (c.args.update ∷ []) c.args.views.now c.len-len.ensures.closed c.requires.views))

pub returns-in-Err-clause-same : goal.returns-in-Err-clause-same
returns-in-Err-clause-same g c =
    c.cut.ensures ∙ ap (take c.len-len.result) c.in_ok-add_last.ensures.added ∙ take_at c.args.graph.now (c.args.update ∷ []) c.len-len.result (sym c.len-len.ensures.value)

pub returns-in-Err-clause-views : goal.returns-in-Err-clause-views
returns-in-Err-clause-views g c =
    let back = c.cut.ensures ∙ ap (take c.len-len.result) c.in_ok-add_last.ensures.added ∙ take_at c.args.graph.now (c.args.update ∷ []) c.len-len.result (sym c.len-len.ensures.value) in
    subst (λ (l : List (List ℕ)). AreViewsOf g.L.Relation.answer c.args.schema.now l (length l) c.take.new.self) (sym back)
    (subst (λ (v : Views). AreViewsOf g.L.Relation.answer c.args.schema.now c.args.graph.now (length c.args.graph.now) v) (sym c.in-Err.ensures.same) c.requires.views)
