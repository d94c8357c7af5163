use Rattle.std.proofs.Common.{◌-◌, ◌∙◌, [], arith, get_or-set_other, length-set}
use Rattle.lms_tree.proofs.TreeLaws.{inner_more}
use Rattle.lms_tree.proofs.tree.write_inner_nodes.Goals as goal

pub loop-r-preserved : goal.loop-r-preserved
loop-r-preserved c = record {
  len = length-set c.loop-r.nodes (c.loop-r.r - 1) c.inner_node.result ∙ c.loop-r.invariant.len;
  leaves = λ q below. get_or-set_other c.loop-r.nodes (c.loop-r.r - 1) _ c.inner_node.result [] (omega arith) ∙ c.loop-r.invariant.leaves q below;
  inner = inner_more c.args.ident.now c.loop-r.nodes c.args.leaves (c.loop-r.r - 1) c.inner_node.result (omega arith) (omega arith) c.loop-r.invariant.len c.inner_node.ensures
      (λ m later high. c.loop-r.invariant.inner m (omega arith) high);
}
