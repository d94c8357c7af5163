use Rattle.std.proofs.Common.{◌∙◌}
use Rattle.text_words.proofs.Kept.{front_kept, same_kept, on_err}
use Rattle.text_words.proofs.printing.push_quoted.Goals as goal

-- src/printing.rt:33:9
pub returns-in_err-push_escaped-clause-kept : goal.returns-in_err-push_escaped-clause-kept
returns-in_err-push_escaped-clause-kept c =
    on_err c.from_residual-in_err-push_escaped.result _
    (front_kept c.args.out.now.items _ c.loop-byte.out.items c.push_escaped.new.out.items c.loop-byte.invariant c.in_err-push_escaped.ensures.kept)

-- src/printing.rt:35:5
pub returns-in_err-push-2-clause-kept : goal.returns-in_err-push-2-clause-kept
returns-in_err-push-2-clause-kept c =
    on_err c.from_residual-in_err-push-2.result _
    (same_kept c.args.out.now.items _ c.push-2.new.self.items (c.in_err-push-2.ensures.items ∙ c.loop-byte.invariant))
