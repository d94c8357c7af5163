use Rattle.text_words.proofs.Kept.{front_kept, on_err}
use Rattle.table_text.proofs.tables.push_rows.Goals as goal

pub returns-in_err-push_row-clause-kept : goal.returns-in_err-push_row-clause-kept
returns-in_err-push_row-clause-kept c =
    on_err c.from_residual.result _
    (front_kept c.args.out.now.items _ c.loop-row.out.items c.push_row.new.out.items c.loop-row.invariant c.in_err-push_row.ensures.kept)
