use Rattle.std.proofs.Common.{List, ap, sym, ◌++◌, ◌∙◌}
use Rattle.update_model.specs.Node.{NodeData}
use Rattle.table_model.specs.Invariants.{claims_of}
use Rattle.table_model.specs.Visible.{rules_with}
use Rattle.confluence_checker.proofs.Wanted.{confirms_by}
use Rattle.confluence_checker.proofs.confirming.confirms.Goals as goal

pub returns : goal.returns
returns g c = λ earlier later declared split same.
    let example = c.args.example.now in
    c.in_ok-answer.ensures earlier later declared split same
    ∙ confirms_by (rules_with g.L.Relation.answer c.args.schema.now.tables) (claims_of earlier) declared.claim example c.as_slice-5.result.now c.as_slice-6.result.now c.as_slice-7.result.now
    (c.as_slice-5.ensures.value ∙ c.in_ok-left.ensures ∙ ap (λ (l : List NodeData). l ++ c.as_slice.result.now) c.as_slice-base.ensures ∙ ap (λ (l : List NodeData). example.base ++ l) c.as_slice.ensures)
    (c.as_slice-6.ensures.value ∙ c.in_ok-right.ensures ∙ ap (λ (l : List NodeData). l ++ c.as_slice-2.result.now) c.as_slice-base.ensures ∙ ap (λ (l : List NodeData). example.base ++ l) c.as_slice-2.ensures)
    (c.as_slice-7.ensures.value ∙ c.in_ok-both.ensures ∙ ap (λ (l : List NodeData). l ++ c.as_slice-4.result.now) (c.as_slice-3.ensures.value ∙ sym c.as_slice-5.ensures.value)
    ∙ ap (λ (l : List NodeData). c.as_slice-5.result.now ++ l) c.as_slice-4.ensures)
