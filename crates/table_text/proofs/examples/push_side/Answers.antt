use Rattle.text_words.proofs.Kept.{front_kept, on_err}
use Rattle.table_text.proofs.examples.push_side.Goals as goal

pub returns-in_err-push_node-clause-kept : goal.returns-in_err-push_node-clause-kept
returns-in_err-push_node-clause-kept c =
    on_err c.from_residual.result _
    (front_kept c.args.out.now.items _ c.loop-node.out.items c.push_node.new.out.items c.loop-node.invariant c.in_err-push_node.ensures.kept)
