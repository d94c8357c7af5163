use Rattle.std.proofs.Common.{◌≡◌, List, Option, get_or, set, ap, ap₂, ◌∙◌}
use Rattle.byzantine_world.specs.Events.{cut_code_with}
use Rattle.byzantine_world.specs.declared.talk.Talk.{Talk}
use Rattle.byzantine_world.proofs.Replaced.{mapped_more, mapped_next}
use Rattle.byzantine_world.proofs.state.cut_all.Goals as goal

pub talks-preserved : goal.talks-preserved
talks-preserved c =
    let xs = c.args.talks.now in
    let i = c.talks.talk-index in
    let d = c.talk-item.result in
    let f : Option Talk → Option Talk = cut_code_with c.args.replica in
    let item : get_or c.talks.talks i d ≡ get_or xs i d = ap (λ (ys : List (Option Talk)). get_or ys i d) c.talks.invariant ∙ mapped_next f xs i d c.talks-test.true in
    ap₂ (λ (ys : List (Option Talk)) (y : Option Talk). set ys i y) c.talks.invariant (c.cut_one.ensures ∙ ap f item) ∙ mapped_more f xs i d c.talks-test.true
