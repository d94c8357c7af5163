use Rattle.std.proofs.Common.{sym, ◌∙◌}
use Rattle.std.specs.Prelude.{None}
use Rattle.std.proofs.lemmas.Result.{err_from_is_err_and}
use Rattle.sync_frames.specs.Reading.{ids_at}
use Rattle.sync_frames.proofs.Loops.{id_fails, id_refused, id_goes_on, ids_done}
use Rattle.sync_frames.proofs.payloads.ids_of.Goals as goal

pub returns-in_err-id : goal.returns-in_err-id
returns-in_err-id c =
    let p = err_from_is_err_and c.from_residual-in_err-id.result c.from_residual-in_err-id.ensures.1 in
    rw (p.1, p.2) (id_fails c.in_err-id.field-0.0 c.loop.ids.items c.args.count c.loop.counter c.loop.last c.loop.rest.now (ids_at c.args.count None c.args.bytes.now) c.loop-test.true c.in_err-id.ensures c.loop.invariant)

pub returns-then-not-is_next : goal.returns-then-not-is_next
returns-then-not-is_next c =
    (id_refused c.loop.ids.items c.args.count c.loop.counter c.loop.last c.loop.rest.now c.in_ok-id.id c.in_ok-id.after.now (ids_at c.args.count None c.args.bytes.now) c.loop-test.true c.in_ok-id.ensures (sym c.is_next.ensures ∙ c.if-not-is_next.true) c.loop.invariant)

pub loop-preserved : goal.loop-preserved
loop-preserved c =
    rw c.in_ok-push.ensures.items (id_goes_on c.loop.ids.items c.args.count c.loop.counter c.loop.last c.loop.rest.now c.in_ok-id.id c.in_ok-id.after.now (ids_at c.args.count None c.args.bytes.now) c.loop-test.true c.in_ok-id.ensures (sym c.is_next.ensures ∙ c.if-not-is_next.false) c.loop.invariant)

pub returns : goal.returns
returns c = ids_done c.loop.ids.items c.args.count c.loop.counter c.loop.last c.loop.rest.now (ids_at c.args.count None c.args.bytes.now) c.loop-test.false c.loop.invariant
