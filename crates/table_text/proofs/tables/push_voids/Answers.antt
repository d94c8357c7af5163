use Rattle.text_words.proofs.Kept.{front_kept, on_err}
use Rattle.table_text.proofs.tables.push_voids.Goals as goal

pub returns-in_err-push_void-clause-kept : goal.returns-in_err-push_void-clause-kept
returns-in_err-push_void-clause-kept c =
    on_err c.from_residual.result _
    (front_kept c.args.out.now.items _ c.loop-line.out.items c.push_void.new.out.items c.loop-line.invariant c.in_err-push_void.ensures.kept)
