use Rattle.std.proofs.Common.{◌≡◌, ℕ, arith, refl, subst, Some}
use Rattle.std.proofs.lemmas.Result.{err_from_is_err_and}
use Rattle.replica.specs.Holding.{keeps_itself}
use Rattle.update_stream.specs.declared.stream.TheConstants.{MAX_RECORDS}
use Rattle.watch_command.specs.Ending.{Streams, stop_of, streams}
use Rattle.watch_command.specs.Steps.{FindsEnd, GoesOn}
use Rattle.watch_command.specs.declared.stop.Stop.TheVariants.{Refused}
use Rattle.watch_command.proofs.Running.{IsAsFar, far_more, far_none, followed}
use Rattle.watch_command.proofs.Stopping.{closes, stops}
use Rattle.watch_command.proofs.following.follow.Goals as goal

pub loop-count-init : goal.loop-count-init
loop-count-init g c =
    far_none c.args.replica.now c.args.view.now (streams g.S.Source.left g.S.Counted.faults g.K.Sink.held g.K.Counted.faults c.args.input.now c.args.out.now)

pub returns-in_err-turn : goal.returns-in_err-turn
returns-in_err-turn g c =
    let p = err_from_is_err_and c.from_residual.result c.from_residual.ensures.1 in
    let before : Streams = streams g.S.Source.left g.S.Counted.faults g.K.Sink.held g.K.Counted.faults c.args.input.now c.args.out.now in
    let between : Streams = streams g.S.Source.left g.S.Counted.faults g.K.Sink.held g.K.Counted.faults c.loop-count.input c.loop-count.out in
    let after : Streams = streams g.S.Source.left g.S.Counted.faults g.K.Sink.held g.K.Counted.faults c.turn.new.input c.turn.new.out in
    rw (p.1, p.2) (followed c.args.replica.now c.loop-count.replica c.turn.new.replica c.args.view.now c.loop-count.view c.loop-count.count before between after (Some c.in_err-turn.field-0.0)
    c.loop-count.invariant c.in_err-turn.ensures.stopped)

pub returns-then-not-branch : goal.returns-then-not-branch
returns-then-not-branch g c =
    let before : Streams = streams g.S.Source.left g.S.Counted.faults g.K.Sink.held g.K.Counted.faults c.args.input.now c.args.out.now in
    let between : Streams = streams g.S.Source.left g.S.Counted.faults g.K.Sink.held g.K.Counted.faults c.loop-count.input c.loop-count.out in
    let found : Streams = streams g.S.Source.left g.S.Counted.faults g.K.Sink.held g.K.Counted.faults c.turn.new.input c.turn.new.out in
    let after : Streams = streams g.S.Source.left g.S.Counted.faults g.K.Sink.held g.K.Counted.faults c.turn.new.input c.close.new.out in
    let low = c.loop-count-test.true in
    followed c.args.replica.now c.loop-count.replica c.turn.new.replica c.args.view.now c.loop-count.view c.loop-count.count before between after (stop_of c.close.result) c.loop-count.invariant
    (closes c.loop-count.count c.loop-count.replica c.turn.new.replica c.loop-count.view c.turn.new.view between found after.sink c.close.result (omega (arith, low))
    (c.in_ok-turn.ensures.end c.if-not-branch.true) c.close.ensures.told c.close.ensures.stopped c.close.ensures.later)

pub loop-count-preserved : goal.loop-count-preserved
loop-count-preserved g c =
    let before : Streams = streams g.S.Source.left g.S.Counted.faults g.K.Sink.held g.K.Counted.faults c.args.input.now c.args.out.now in
    let between : Streams = streams g.S.Source.left g.S.Counted.faults g.K.Sink.held g.K.Counted.faults c.loop-count.input c.loop-count.out in
    let after : Streams = streams g.S.Source.left g.S.Counted.faults g.K.Sink.held g.K.Counted.faults c.turn.new.input c.turn.new.out in
    far_more c.args.replica.now c.loop-count.replica c.turn.new.replica c.args.view.now c.loop-count.view c.turn.new.view c.loop-count.count before between after c.loop-count.invariant
    (c.in_ok-turn.ensures.taken c.if-not-branch.false)

pub returns-in_err-at_end : goal.returns-in_err-at_end
returns-in_err-at_end g c =
    let p = err_from_is_err_and c.from_residual-in_err-at_end.result c.from_residual-in_err-at_end.ensures.1 in
    let before : Streams = streams g.S.Source.left g.S.Counted.faults g.K.Sink.held g.K.Counted.faults c.args.input.now c.args.out.now in
    let between : Streams = streams g.S.Source.left g.S.Counted.faults g.K.Sink.held g.K.Counted.faults c.loop-count.input c.loop-count.out in
    let after : Streams = streams g.S.Source.left g.S.Counted.faults g.K.Sink.held g.K.Counted.faults c.at_end.new.input c.loop-count.out in
    let replica = c.loop-count.replica in
    let all : c.loop-count.count ≡ MAX_RECORDS = omega (arith, c.loop-count.auto.count-end, c.loop-count-test.false) in
    let far = subst (λ (n : ℕ). IsAsFar c.args.replica.now replica c.args.view.now c.loop-count.view n before between) all c.loop-count.invariant in
    let on : GoesOn replica replica between after = record { keeps = keeps_itself replica; log_later = omega arith; source_later = c.in_err-at_end.ensures.later; sink_later = omega arith } in
    rw (p.1, p.2) (followed c.args.replica.now replica replica c.args.view.now c.loop-count.view MAX_RECORDS before between after (Some (Refused c.in_err-at_end.field-0.0)) far
    (stops MAX_RECORDS replica replica c.loop-count.view between after c.in_err-at_end.field-0.0 (omega arith)
    (c.in_err-at_end.ensures.stopped replica.history.schema.rule replica.history.members replica.log.faults) refl refl on))

pub returns : goal.returns
returns g c =
    let before : Streams = streams g.S.Source.left g.S.Counted.faults g.K.Sink.held g.K.Counted.faults c.args.input.now c.args.out.now in
    let between : Streams = streams g.S.Source.left g.S.Counted.faults g.K.Sink.held g.K.Counted.faults c.loop-count.input c.loop-count.out in
    let found : Streams = streams g.S.Source.left g.S.Counted.faults g.K.Sink.held g.K.Counted.faults c.at_end.new.input c.loop-count.out in
    let after : Streams = streams g.S.Source.left g.S.Counted.faults g.K.Sink.held g.K.Counted.faults c.at_end.new.input c.close-2.new.out in
    let replica = c.loop-count.replica in
    let all : c.loop-count.count ≡ MAX_RECORDS = omega (arith, c.loop-count.auto.count-end, c.loop-count-test.false) in
    let far = subst (λ (n : ℕ). IsAsFar c.args.replica.now replica c.args.view.now c.loop-count.view n before between) all c.loop-count.invariant in
    let ends : FindsEnd replica replica c.loop-count.view c.loop-count.view between found =
    record { end = c.in_ok-at_end.ensures.end; replica = refl; view_is = refl; sink = refl; later = c.in_ok-at_end.ensures.later } in
    followed c.args.replica.now replica replica c.args.view.now c.loop-count.view MAX_RECORDS before between after (stop_of c.close-2.result) far
    (closes MAX_RECORDS replica replica c.loop-count.view c.loop-count.view between found after.sink c.close-2.result (omega arith) ends c.close-2.ensures.told c.close-2.ensures.stopped c.close-2.ensures.later)
