use Rattle.std.proofs.Common.{◌<◌, length, sym, ap, ◌∙◌, arith, Ok, Err}
use Rattle.std.proofs.lemmas.Bool.Decides.{nat_tests}
use Rattle.txn_text.specs.declared.stop.Wrong.{Wrong}
use Rattle.txn_text.proofs.Writing.{next_is}
use Rattle.txn_text.proofs.operations.next_value.Goals as goal

pub returns-in-Ok-clause-found : goal.returns-in-Ok-clause-found
returns-in-Ok-clause-found c =
    let some : 0 < length c.skip_blanks-start.result.now = grind (arith, nat_tests, c.is_empty.ensures, c.if-is_empty.false) in
    next_is c.args.verb c.args.before c.args.rest.now c.skip_blanks-start.result.now c.in-Some.after.now c.in-Some.word (Ok c.in-Ok.value) c.skip_blanks-start.ensures some
    (sym (rw c.in-Some.is at c.in_ok-word.ensures)) (rw c.in-Ok.is at c.value_for.ensures.value)

pub returns-in-Err-clause-wrong : goal.returns-in-Err-clause-wrong
returns-in-Err-clause-wrong c =
    let some : 0 < length c.skip_blanks-start.result.now = grind (arith, nat_tests, c.is_empty.ensures, c.if-is_empty.false) in
    next_is c.args.verb c.args.before c.args.rest.now c.skip_blanks-start.result.now c.in-Some.after.now c.in-Some.word (Err c.in-Err.kind) c.skip_blanks-start.ensures some
    (sym (rw c.in-Some.is at c.in_ok-word.ensures)) (rw c.in-Err.is at c.value_for.ensures.value) ∙ ap (λ (w : Wrong). Err w) (sym c.wrong_at-in-Err.ensures)
