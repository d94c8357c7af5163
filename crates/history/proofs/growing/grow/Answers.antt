use Rattle.std.proofs.Common.{◌∙◌, ℕ, List, [], length, length-append, append-nil, take, sym, ap, subst, arith}
use Rattle.std.proofs.lemmas.List.{take_at}
use Rattle.history.specs.Kept.{AreViewsOf}
use Rattle.history.proofs.Fronts.{views_cut_back}
use Rattle.history.proofs.growing.grow.Goals as goal

pub cut-requires : goal.cut-requires
cut-requires g c =
    let behind = c.in-Err.ensures.behind in
    let size = ap length behind.1 ∙ length-append c.args.graph.now behind.0 in omega (arith, size)

pub returns-in-Ok-clause-grown : goal.returns-in-Ok-clause-grown
returns-in-Ok-clause-grown g c = let added = c.in-Ok.ensures.added in (added.added, added.behind, added.from)

pub returns-in-Err-clause-grown : goal.returns-in-Err-clause-grown
returns-in-Err-clause-grown g c =
    let behind = c.in-Err.ensures.behind in
    let back = c.cut.ensures ∙ ap (take c.len-len.result) behind.1 ∙ take_at c.args.graph.now behind.0 c.len-len.result (sym c.len-len.ensures.value) in
    ([], back ∙ sym (append-nil c.args.graph.now), tt)

pub returns-in-Err-clause-same : goal.returns-in-Err-clause-same
returns-in-Err-clause-same g c =
    let behind = c.in-Err.ensures.behind in
    c.cut.ensures ∙ ap (take c.len-len.result) behind.1 ∙ take_at c.args.graph.now behind.0 c.len-len.result (sym c.len-len.ensures.value)

pub returns-in-Err-clause-views : goal.returns-in-Err-clause-views
returns-in-Err-clause-views g c =
    let behind = c.in-Err.ensures.behind in
    let back = c.cut.ensures ∙ ap (take c.len-len.result) behind.1 ∙ take_at c.args.graph.now behind.0 c.len-len.result (sym c.len-len.ensures.value) in
    subst (λ (l : List (List ℕ)). AreViewsOf g.L.Relation.answer c.args.schema.now l (length l) c.add_and_take.new.views) (sym back)
    (views_cut_back g.L.Relation.answer c.args.schema.now c.args.graph.now behind.0 c.add_and_take.new.graph c.add_and_take.new.views c.len-len.ensures.closed behind.1 c.in-Err.ensures.none)
