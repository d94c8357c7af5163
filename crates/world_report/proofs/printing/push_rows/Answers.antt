use Rattle.text_words.proofs.Kept.{front_kept, on_err}
use Rattle.world_report.proofs.printing.push_rows.Goals as goal

pub returns-in_err-push_numbered-clause-kept : goal.returns-in_err-push_numbered-clause-kept
returns-in_err-push_numbered-clause-kept c =
    on_err c.from_residual.result _
    (front_kept c.args.out.now.items _ c.loop-count.out.items c.push_numbered.new.out.items c.loop-count.invariant c.in_err-push_numbered.ensures.kept)
