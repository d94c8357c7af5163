use Rattle.std.proofs.Common.{◌<◌, length, arith}
use Rattle.text_words.proofs.Kept.{front_kept, on_err}
use Rattle.table_text.proofs.Filled.{filled_next}
use Rattle.table_text.proofs.tables.push_filled.Goals as goal

pub loop-number-preserved : goal.loop-number-preserved
loop-number-preserved c =
    let within : c.loop-number.number < length c.args.schema.now.tables = omega (arith, c.loop-number-test.true, c.tables-number-end.ensures.number) in
    filled_next c.args.out.now.items c.loop-number.out.items c.push_numbered.new.out.items c.args.schema.now.tables c.args.lists.now c.loop-number.number within
    c.loop-number.invariant c.in_ok-push_numbered.ensures.added

pub returns-in_err-push_numbered-clause-kept : goal.returns-in_err-push_numbered-clause-kept
returns-in_err-push_numbered-clause-kept c =
    on_err c.from_residual.result _
    (front_kept c.args.out.now.items _ c.loop-number.out.items c.push_numbered.new.out.items c.loop-number.invariant c.in_err-push_numbered.ensures.kept)
