use Rattle.std.proofs.Common.{◌-◌, ◌+◌, ap, sym, refl, ◌∙◌}
use Rattle.std.proofs.lemmas.Result.{err_from_is_err_and}
use Rattle.update_codec.specs.Reading.{op_at, ops_at}
use Rattle.update_codec.proofs.Loops.{with_front, first_then, ends, goes_on, is_done, ops_next, ops_end}
use Rattle.update_codec.proofs.operations.ops_of.Goals as goal

pub returns-in_err-op : goal.returns-in_err-op
returns-in_err-op c =
    let p = err_from_is_err_and c.from_residual-in_err-op.result c.from_residual-in_err-op.ensures.1 in
    let next = ops_next c.args.count c.loop-number.number c.loop-number.rest.now c.loop-number-test.true in
    rw (p.1, p.2) (ends c.in_err-op.field-0.0 c.loop-number.ops.items (op_at c.loop-number.number c.loop-number.rest.now) (λ x. first_then x.0 (ops_at (c.args.count - (c.loop-number.number + 1)) (c.loop-number.number + 1) x.1)) (ops_at c.args.count 0 c.args.bytes.now) c.in_err-op.ensures (ap (with_front c.loop-number.ops.items) (sym next) ∙ c.loop-number.invariant))

pub loop-number-preserved : goal.loop-number-preserved
loop-number-preserved c =
    let next = ops_next c.args.count c.loop-number.number c.loop-number.rest.now c.loop-number-test.true in
    rw c.in_ok-push.ensures.items (goes_on c.loop-number.ops.items (op_at c.loop-number.number c.loop-number.rest.now) (c.in_ok-op.op, c.in_ok-op.after.now) (λ x. first_then x.0 (ops_at (c.args.count - (c.loop-number.number + 1)) (c.loop-number.number + 1) x.1)) c.in_ok-op.op (ops_at (c.args.count - (c.loop-number.number + 1)) (c.loop-number.number + 1) c.in_ok-op.after.now) (ops_at c.args.count 0 c.args.bytes.now) c.in_ok-op.ensures refl (ap (with_front c.loop-number.ops.items) (sym next) ∙ c.loop-number.invariant))

pub returns : goal.returns
returns c = is_done c.loop-number.ops.items c.loop-number.rest.now (ops_at (c.args.count - c.loop-number.number) c.loop-number.number c.loop-number.rest.now) (ops_at c.args.count 0 c.args.bytes.now) (ops_end c.args.count c.loop-number.number c.loop-number.rest.now c.loop-number-test.false) c.loop-number.invariant
