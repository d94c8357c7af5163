use Rattle.std.proofs.Common.{◌≡◌, length, rules}
use Rattle.txn_text.proofs.Lines.{room, stand_more}
use Rattle.txn_text.proofs.reading.take_line.Goals as goal

pub returns-in_ok-push-in-Some-clause-form : goal.returns-in_ok-push-in-Some-clause-form
returns-in_ok-push-in-Some-clause-form c =
    let ops = c.args.ops.now.items in
    let n : c.len-before.result ≡ length c.args.ops.now.items = search rules in
    let found = rw (c.in-Some.is, n) at c.in_ok-op.ensures.found in
    let form = rw (c.in-Some.is, n) at c.in_ok-op.ensures.form in
    rw c.in_ok-push-in-Some.ensures.items (stand_more ops c.in-Some.op c.requires.ops (room c.args.schema.now.tables (length ops) c.args.line.now c.in-Some.op found) form)
