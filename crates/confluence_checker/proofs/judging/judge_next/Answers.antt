use Rattle.std.proofs.Common.{List, filter, ap, ◌∙◌}
use Rattle.update_model.specs.declared.update_id.UpdateId.{UpdateId}
use Rattle.update_model.specs.Graph.{has}
use Rattle.table_model.specs.Verdicts.{effects}
use Rattle.confluence_checker.specs.Forms.{newest_first}
use Rattle.table_model.specs.Visible.{rules_with}
use Rattle.confluence_checker.proofs.Newest.{judged_is}
use Rattle.confluence_checker.proofs.judging.judge_next.Goals as goal

pub returns : goal.returns
returns g c =
    let rules = rules_with g.L.Relation.answer c.args.schema.now.tables in
    let js = c.args.js.now in
    let node = c.args.node.now in
    judged_is rules js node (record { node = c.in_ok-copy.field-0; ancestors = c.in_ok-ancestors.ancestors; verdict = c.in_ok-verdict.verdict }) c.in_ok-past.past
    c.in_ok-copy.ensures c.in_ok-ancestors.ensures
    (c.in_ok-past.ensures ∙ ap (λ (l : List UpdateId). effects (filter (λ k. has l k.node.id) (newest_first js))) c.as_slice.ensures.value)
    c.in_ok-verdict.ensures
