use Rattle.std.proofs.Common.{◌∙◌, List, [], ◌∷◌, ◌++◌, ap, ap₂, map, sym}
use Rattle.std.proofs.lemmas.List.{map_more, take_all}
use Rattle.update_model.specs.declared.value.Value.{Value}
use Rattle.query_answer.specs.declared.line.Line.{Line}
use Rattle.query_answer.specs.Answers.{picked}
use Rattle.query_answer.specs.Rows.{shown_row}
use Rattle.query_answer.proofs.picking.picked_rows.Goals as goal

pub loop-line-preserved : goal.loop-line-preserved
loop-line-preserved c = λ lists are.
    let f : Line → List Value = λ line. picked lists c.args.items.now (shown_row line.row) in
    c.in_ok-push.ensures.items
    ∙ ap₂ (λ (xs : List (List Value)) (x : List Value). xs ++ x ∷ []) (c.loop-line.invariant lists are) (c.in_ok-picked.ensures lists are ∙ ap f c.line-item.is)
    ∙ sym (map_more f c.args.lines.now c.loop-line.line-index c.line-item.result c.loop-line-test.true)

pub returns : goal.returns
returns c = λ lists are.
    c.loop-line.invariant lists are
    ∙ ap (map (λ (line : Line). picked lists c.args.items.now (shown_row line.row))) (take_all c.loop-line.line-index c.args.lines.now c.loop-line-test.false)
