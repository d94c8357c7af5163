use Rattle.std.proofs.Common.{sym, ◌∙◌}
use Rattle.std.proofs.lemmas.Result.{IfOk-weaker}
use Rattle.table_model.specs.Visible.{Rules, rules_with, visible_rows}
use Rattle.table_model.specs.Verdicts.{joined}
use Rattle.validity.proofs.Asked.{verdict_is_asked}
use Rattle.validity.proofs.judging.judge.Goals as goal

pub returns : goal.returns
returns g c =
    let rules : Rules = rules_with g.L.Relation.answer c.args.schema.now.tables in
    IfOk-weaker c.judge_operations.result _ _
    (λ verdict is past answers. is
    ∙ verdict_is_asked rules past (g.Q.RowsAt.row c.args.rows.now) (g.Q.RowsAt.has_child c.args.rows.now) (g.Q.RowsAt.equal_count c.args.rows.now) (g.Q.RowsAt.count c.args.rows.now) answers
    (λ did. c.unlimited_tables_hold.ensures rules (visible_rows rules (joined did past)) c.requires) c.args.node.now
    ∙ sym (c.verdict_goes_by_operations.ensures rules past c.args.node.now))
    c.judge_operations.ensures
