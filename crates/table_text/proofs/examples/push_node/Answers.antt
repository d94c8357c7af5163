use Rattle.text_words.proofs.Kept.{front_kept, on_err}
use Rattle.table_text.proofs.examples.push_node.Goals as goal

pub returns-in_err-push_step-clause-kept : goal.returns-in_err-push_step-clause-kept
returns-in_err-push_step-clause-kept c =
    on_err c.from_residual.result _
    (front_kept c.args.out.now.items _ c.loop-operation.out.items c.push_step.new.out.items c.loop-operation.invariant c.in_err-push_step.ensures.kept)
