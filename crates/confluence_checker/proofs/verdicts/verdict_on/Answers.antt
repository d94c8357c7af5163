use Rattle.std.proofs.Common.{◌≡◌, ◌≤◌, List, [], length, ap, subst, arith, ◌∙◌}
use Rattle.update_model.specs.Node.{NodeData}
use Rattle.table_model.specs.Verdicts.{verdict_after, verdict_on}
use Rattle.table_model.specs.Visible.{TableRow, rules_with}
use Rattle.confluence_checker.proofs.Doing.{verdict_end}
use Rattle.confluence_checker.proofs.verdicts.verdict_on.Goals as goal

pub returns : goal.returns
returns g c =
    let rules = rules_with g.L.Relation.answer c.args.schema.now.tables in
    let node = c.args.node.now in
    let ops = c.as_slice-ops.result.now in
    let same : length ops ≡ length node.ops = ap length (c.as_slice-ops.ensures ∙ ap (λ (n : NodeData). n.ops) c.node.view_is) in
    let many = c.op_count-count.ensures.count in
    let high : length ops ≤ c.loop-number.number = omega arith in
    let low = c.loop-number.auto.number-end in
    let last : c.op_count-count.result ≡ c.loop-number.number = omega arith in
    let at_end : c.in_ok-verdict.verdict ≡ verdict_after rules c.args.past.now c.in_ok-rows.rows.items node c.op_count-count.result c.loop-number.did [] =
    subst (λ (l : List TableRow). c.in_ok-verdict.verdict ≡ verdict_after rules c.args.past.now l node c.op_count-count.result c.loop-number.did []) c.as_slice-2.ensures.value
    (c.in_ok-verdict.ensures g.L.Relation.answer node) in
    verdict_end rules c.args.past.now c.in_ok-rows.rows.items node ops c.loop-number.number c.op_count-count.result c.loop-number.did (verdict_on rules c.args.past.now node) c.in_ok-verdict.verdict
    high last at_end c.loop-number.invariant
