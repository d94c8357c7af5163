use Rattle.std.proofs.Common.{List, ℕ, arith, refl, subst}
use Rattle.std.specs.Io.KnownBytes.{Appends}
use Rattle.std.proofs.lemmas.Result.{err_from_is_err_and}
use Rattle.watch_command.specs.Ending.{Streams, WritesFront, streams}
use Rattle.watch_command.specs.Steps.{GoesOn}
use Rattle.watch_command.proofs.Stopping.{stops, stops_untold, stops_unwritten}
use Rattle.watch_command.proofs.Turning.{turned}
use Rattle.watch_command.proofs.following.turn.Goals as goal

pub returns-in_err-take_next-clause-stopped : goal.returns-in_err-take_next-clause-stopped
returns-in_err-take_next-clause-stopped g c =
    let p = err_from_is_err_and c.from_residual.result c.from_residual.ensures.1 in
    let few = c.requires in
    let before : Streams = streams g.S.Source.left g.S.Counted.faults g.K.Sink.held g.K.Counted.faults c.args.input.now c.args.out.now in
    let after : Streams = streams g.S.Source.left g.S.Counted.faults g.K.Sink.held g.K.Counted.faults c.take_next.new.input c.args.out.now in
    let on : GoesOn c.args.replica.now c.take_next.new.replica before after = record {
      keeps = c.in_err-take_next.ensures.keeps;
      log_later = c.in_err-take_next.ensures.later;
      source_later = c.in_err-take_next.ensures.source_later;
      sink_later = omega arith;
    } in
    rw (p.1, p.2) (stops c.args.count c.args.replica.now c.take_next.new.replica c.args.view.now before after c.in_err-take_next.field-0.0 (omega (arith, few)) c.in_err-take_next.ensures.stopped
    c.in_err-take_next.ensures.same refl on)

pub returns-in_err-text-clause-stopped : goal.returns-in_err-text-clause-stopped
returns-in_err-text-clause-stopped g c =
    let p = err_from_is_err_and c.from_residual-in_err-text.result c.from_residual-in_err-text.ensures.1 in
    let few = c.requires in
    let before : Streams = streams g.S.Source.left g.S.Counted.faults g.K.Sink.held g.K.Counted.faults c.args.input.now c.args.out.now in
    let after : Streams = streams g.S.Source.left g.S.Counted.faults g.K.Sink.held g.K.Counted.faults c.take_next.new.input c.args.out.now in
    let taken = c.in_ok-take_next.ensures.taken c.if-not-branch.false in
    let on : GoesOn c.args.replica.now c.take_next.new.replica before after = record {
      keeps = c.in_ok-take_next.ensures.keeps;
      log_later = c.in_ok-take_next.ensures.later;
      source_later = c.in_ok-take_next.ensures.source_later;
      sink_later = omega arith;
    } in
    rw (p.1, p.2) (stops_untold c.args.count c.args.replica.now c.take_next.new.replica c.args.view.now before after taken.bytes (omega (arith, few)) taken.takes taken.came refl on)

pub returns-in_err-write_all_of-clause-stopped : goal.returns-in_err-write_all_of-clause-stopped
returns-in_err-write_all_of-clause-stopped g c =
    let p = err_from_is_err_and c.from_residual-in_err-write_all_of.result c.from_residual-in_err-write_all_of.ensures.1 in
    let before : Streams = streams g.S.Source.left g.S.Counted.faults g.K.Sink.held g.K.Counted.faults c.args.input.now c.args.out.now in
    let after : Streams = streams g.S.Source.left g.S.Counted.faults g.K.Sink.held g.K.Counted.faults c.take_next.new.input c.write_all_of.new.sink in
    let taken = c.in_ok-take_next.ensures.taken c.if-not-branch.false in
    let on : GoesOn c.args.replica.now c.take_next.new.replica before after = record {
      keeps = c.in_ok-take_next.ensures.keeps;
      log_later = c.in_ok-take_next.ensures.later;
      source_later = c.in_ok-take_next.ensures.source_later;
      sink_later = c.in_err-write_all_of.ensures.cause.later;
    } in
    let failed : WritesFront before.sink after.sink c.in_ok-text.text.items =
    subst (WritesFront before.sink after.sink) c.deref.ensures.value (c.in_err-write_all_of.ensures.cause.failed, c.in_err-write_all_of.ensures.bytes) in
    rw (p.1, p.2) (stops_unwritten c.args.count c.args.replica.now c.take_next.new.replica c.args.view.now c.told.new.view before after taken.bytes c.in_ok-text.text.items c.requires
    (turned c.args.count c.args.replica.now c.take_next.new.replica c.args.view.now c.told.new.view taken.bytes c.in_ok-text.text.items taken.takes c.in_ok-take_next.ensures.keeps c.in_ok-text.ensures)
    taken.came failed on)

pub returns-clause-taken : goal.returns-clause-taken
returns-clause-taken g c more =
    let taken = c.in_ok-take_next.ensures.taken c.if-not-branch.false in
    record {
      bytes = taken.bytes;
      text = c.in_ok-text.text.items;
      turn = turned c.args.count c.args.replica.now c.take_next.new.replica c.args.view.now c.told.new.view taken.bytes c.in_ok-text.text.items taken.takes c.in_ok-take_next.ensures.keeps c.in_ok-text.ensures;
      came = taken.came;
      written = subst (λ (w : List ℕ). Appends (g.K.Sink.held c.args.out.now) (g.K.Sink.held c.write_all_of.new.sink) w) c.deref.ensures.value c.in_ok-write_all_of.ensures.bytes;
      whole = c.in_ok-take_next.ensures.whole;
      on = record {
        keeps = c.in_ok-take_next.ensures.keeps;
        log_later = c.in_ok-take_next.ensures.later;
        source_later = c.in_ok-take_next.ensures.source_later;
        sink_later = c.in_ok-write_all_of.ensures.cause.later;
      };
    }
