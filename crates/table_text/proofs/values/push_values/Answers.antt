use Rattle.text_words.proofs.Kept.{front_kept, on_err}
use Rattle.table_text.proofs.values.push_values.Goals as goal

pub returns-in_err-push_value-clause-kept : goal.returns-in_err-push_value-clause-kept
returns-in_err-push_value-clause-kept c =
    on_err c.from_residual-in_err-push_value.result _
    (front_kept c.args.out.now.items _ c.loop-value.out.items c.push_value.new.out.items c.loop-value.invariant
    (front_kept c.loop-value.out.items _ c.push.new.self.items c.push_value.new.out.items c.in_ok-push.ensures.items c.in_err-push_value.ensures.kept))
