use Rattle.std.proofs.Common.{◌≡◌, ◌+◌, [], length, refl, sym, ap, ◌∙◌, arith}
use Rattle.std.proofs.lemmas.Result.{IfOk-weaker}
use Rattle.table_model.specs.Visible.{Rules, rules_with}
use Rattle.validity.specs.Asked.{verdict_asked}
use Rattle.validity.proofs.Steps.{end_at, on_at, void_at}
use Rattle.validity.proofs.judging.judge_operations.Goals as goal

pub loop-op-init : goal.loop-op-init
loop-op-init g c = record {
  few = rw c.as_slice-op-items.ensures c.node.invariant;
  number = refl;
  rest = rw (c.new.ensures.items, c.new-2.ensures.items) refl;
}

pub do_operation-requires-after_bounds : goal.do_operation-requires-after_bounds
do_operation-requires-after_bounds g c κs within = omega arith

pub returns-in-Some : goal.returns-in-Some
returns-in-Some g c =
    let rules : Rules = rules_with g.L.Relation.answer c.args.schema.now.tables in
    let row = g.Q.RowsAt.row c.args.rows.now in
    let child = g.Q.RowsAt.has_child c.args.rows.now in
    let equal = g.Q.RowsAt.equal_count c.args.rows.now in
    let node = c.args.node.now in
    let ops = c.as_slice-op-items.result.now in
    void_at rules row child equal node ops c.loop-op.op-index c.loop-op.done.number c.loop-op.done.own.items c.loop-op.done.deleted.items c.op-item.result c.in-Some.reason _
    c.loop-op-test.true c.op-item.is (sym c.in_ok-reason.ensures.reason ∙ c.in-Some.is) c.loop-op.invariant.rest
    ∙ ap (λ all. verdict_asked rules row child equal node 0 [] [] all) (c.as_slice-op-items.ensures ∙ ap (λ n. n.ops) c.node.view_is)

pub loop-op-preserved : goal.loop-op-preserved
loop-op-preserved g c =
    let rules : Rules = rules_with g.L.Relation.answer c.args.schema.now.tables in
    let row = g.Q.RowsAt.row c.args.rows.now in
    let child = g.Q.RowsAt.has_child c.args.rows.now in
    let equal = g.Q.RowsAt.equal_count c.args.rows.now in
    let next = c.in_ok-reason.ensures.number c.in_default.is in
    record {
      few = c.loop-op.invariant.few;
      number = next ∙ ap (λ n. n + 1) c.loop-op.invariant.number;
      rest =
          on_at rules row child equal c.args.node.now c.as_slice-op-items.result.now c.loop-op.op-index c.loop-op.done.number c.loop-op.done.own.items c.loop-op.done.deleted.items
          c.op-item.result _ _ _ _ c.loop-op-test.true c.op-item.is (sym c.in_ok-reason.ensures.reason ∙ c.in_default.is)
          next (c.in_ok-reason.ensures.own c.in_default.is) (c.in_ok-reason.ensures.deleted c.in_default.is) c.loop-op.invariant.rest;
    }

pub returns : goal.returns
returns g c =
    let rules : Rules = rules_with g.L.Relation.answer c.args.schema.now.tables in
    let row = g.Q.RowsAt.row c.args.rows.now in
    let child = g.Q.RowsAt.has_child c.args.rows.now in
    let equal = g.Q.RowsAt.equal_count c.args.rows.now in
    let node = c.args.node.now in
    let ops = c.as_slice-op-items.result.now in
    let end : c.loop-op.op-index ≡ length ops = omega arith in
    let at_end = end_at rules row child equal node ops c.loop-op.done.number c.loop-op.done.own.items c.loop-op.done.deleted.items _
    (rw (← end) c.loop-op.invariant.rest)
    ∙ ap (λ all. verdict_asked rules row child equal node 0 [] [] all) (c.as_slice-op-items.ensures ∙ ap (λ n. n.ops) c.node.view_is) in
    IfOk-weaker c.end_verdict.result _ _ (λ verdict is. is g.L.Relation.answer ∙ at_end) c.end_verdict.ensures
