use Rattle.std.proofs.Common.{◌<◌, ◌≤◌, ap, ◌∙◌, List, length, get_or, subst}
use Rattle.update_model.specs.declared.op.Op.{Op}
use Rattle.update_model.specs.Node.{NodeData}
use Rattle.tuple_state.proofs.Stepping.{names_all, names_end, names_step}
use Rattle.tuple_state.proofs.steps.dropped_by.Goals as goal

pub loop-op-preserved : goal.loop-op-preserved
loop-op-preserved c =
    let ops = c.args.node.now.ops in
    let same = c.as_slice-op-items.ensures ∙ ap (λ (n : NodeData). n.ops) c.node.view_is in
    names_step c.args.position ops ops c.loop-op.op-index c.op-item.result c.loop-op.names.items c.add_name.new.names.items
    (subst (λ (l : List Op). c.loop-op.op-index < length l) same c.loop-op-test.true)
    (c.op-item.is ∙ ap (λ (l : List Op). get_or l c.loop-op.op-index c.op-item.result) same) c.loop-op.invariant c.in_ok-add_name.ensures

pub returns : goal.returns
returns c =
    let ops = c.args.node.now.ops in
    let same = c.as_slice-op-items.ensures ∙ ap (λ (n : NodeData). n.ops) c.node.view_is in
    names_end c.args.position ops ops c.loop-op.op-index c.loop-op.names.items (subst (λ (l : List Op). length l ≤ c.loop-op.op-index) same c.loop-op-test.false) c.loop-op.invariant
    ∙ names_all c.args.position c.args.node.now
