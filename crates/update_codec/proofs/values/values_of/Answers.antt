use Rattle.std.proofs.Common.{◌-◌, ◌+◌, ap, sym, refl, ◌∙◌}
use Rattle.std.proofs.lemmas.Result.{err_from_is_err_and}
use Rattle.update_codec.specs.Reading.{value_at, values_at}
use Rattle.update_codec.proofs.Loops.{with_front, first_then, ends, goes_on, is_done, values_next, values_end}
use Rattle.update_codec.proofs.values.values_of.Goals as goal

pub returns-in_err-value : goal.returns-in_err-value
returns-in_err-value c =
    let p = err_from_is_err_and c.from_residual-in_err-value.result c.from_residual-in_err-value.ensures.1 in
    let next = values_next c.args.number c.args.count c.loop.counter c.loop.rest.now c.loop-test.true in
    rw (p.1, p.2) (ends c.in_err-value.field-0.0 c.loop.values.items (value_at c.args.number c.loop.rest.now) (λ x. first_then x.0 (values_at c.args.number (c.args.count - (c.loop.counter + 1)) x.1)) (values_at c.args.number c.args.count c.args.bytes.now) c.in_err-value.ensures (ap (with_front c.loop.values.items) (sym next) ∙ c.loop.invariant))

pub loop-preserved : goal.loop-preserved
loop-preserved c =
    let next = values_next c.args.number c.args.count c.loop.counter c.loop.rest.now c.loop-test.true in
    rw c.in_ok-push.ensures.items (goes_on c.loop.values.items (value_at c.args.number c.loop.rest.now) (c.in_ok-value.value, c.in_ok-value.after.now) (λ x. first_then x.0 (values_at c.args.number (c.args.count - (c.loop.counter + 1)) x.1)) c.in_ok-value.value (values_at c.args.number (c.args.count - (c.loop.counter + 1)) c.in_ok-value.after.now) (values_at c.args.number c.args.count c.args.bytes.now) c.in_ok-value.ensures refl (ap (with_front c.loop.values.items) (sym next) ∙ c.loop.invariant))

pub returns : goal.returns
returns c = is_done c.loop.values.items c.loop.rest.now (values_at c.args.number (c.args.count - c.loop.counter) c.loop.rest.now) (values_at c.args.number c.args.count c.args.bytes.now) (values_end c.args.number c.args.count c.loop.counter c.loop.rest.now c.loop-test.false) c.loop.invariant
