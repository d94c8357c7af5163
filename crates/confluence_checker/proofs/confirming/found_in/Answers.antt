use Rattle.std.proofs.Common.{◌≡◌, List, reverse, ap, sym, subst, ◌∙◌}
use Rattle.table_model.specs.Invariants.{invariants_of, shown_in}
use Rattle.table_model.specs.Verdicts.{Judged, effects}
use Rattle.table_model.specs.Visible.{TableRow, Effects, shown_rows, rules_with}
use Rattle.confluence_checker.specs.Forms.{AllFit, found_among, newest_first, start}
use Rattle.confluence_checker.specs.declared.judged_node.JudgedNode.{JudgedNode}
use Rattle.confluence_checker.proofs.confirming.found_in.Goals as goal

pub found-requires-after_bounds : goal.found-requires-after_bounds
found-requires-after_bounds g c κs within =
    let r = rules_with g.L.Relation.answer c.args.checker.now.schema.now.tables in
    let nodes = reverse c.args.nodes.now in
    let is : c.as_slice-2.result.now ≡ shown_in r nodes =
    c.as_slice-2.ensures.value ∙ c.in_ok-rows.ensures g.L.Relation.answer
    ∙ ap (λ (did : Effects). shown_rows r did) (c.in_ok-did.ensures ∙ ap (λ (js : List JudgedNode). effects (newest_first js)) c.as_slice.ensures.value ∙ ap (λ (js : List Judged). effects js) c.in_ok-js.ensures) in
    subst (λ (rows : List TableRow). AllFit c.args.checker.now.schema.now.tables rows) (sym is) (c.shown_rows_fit.ensures r nodes c.tables-tables.ensures.kept.tables c.requires)

pub returns : goal.returns
returns g c =
    let r = rules_with g.L.Relation.answer c.args.checker.now.schema.now.tables in
    let nodes = reverse c.args.nodes.now in
    let is : c.as_slice-2.result.now ≡ shown_in r nodes =
    c.as_slice-2.ensures.value ∙ c.in_ok-rows.ensures g.L.Relation.answer
    ∙ ap (λ (did : Effects). shown_rows r did) (c.in_ok-did.ensures ∙ ap (λ (js : List JudgedNode). effects (newest_first js)) c.as_slice.ensures.value ∙ ap (λ (js : List Judged). effects js) c.in_ok-js.ensures) in
    c.in_ok-answer.ensures ∙ ap (λ (rows : List TableRow). found_among r rows c.args.which.now (invariants_of r) start) is
