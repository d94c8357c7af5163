use Rattle.std.proofs.Common.{◌≡◌, refl}
use Rattle.std.proofs.lemmas.Result.{err_from_is_err_and}
use Rattle.schema_verdict.specs.Written.{SinkState}
use Rattle.watch_command.specs.Ending.{Streams, stop_of, streams}
use Rattle.watch_command.specs.Watching.{WatchData}
use Rattle.watch_command.proofs.Opening.{not_shown, query_refused, shown}
use Rattle.watch_command.proofs.watching.watch_open.Goals as goal

pub returns-in_err-view : goal.returns-in_err-view
returns-in_err-view g c =
    let p = err_from_is_err_and c.from_residual.result c.from_residual.ensures.1 in
    let watch : WatchData = record { text = c.args.what.now.text.now; every = c.args.what.now.every } in
    let before : Streams = streams g.S.Source.left g.S.Counted.faults g.K.Sink.held g.K.Counted.faults c.args.input.now c.args.out.now in
    rw (p.1, p.2) (query_refused (c.args.input.now ≡ c.args.input.now) watch c.args.replica.now before c.each_stands.ensures c.in_err-view.field-0.0 refl c.in_err-view.ensures.refused)

pub returns-in_err-write_shown : goal.returns-in_err-write_shown
returns-in_err-write_shown g c =
    let p = err_from_is_err_and c.from_residual-in_err-write_shown.result c.from_residual-in_err-write_shown.ensures.1 in
    let watch : WatchData = record { text = c.args.what.now.text.now; every = c.args.what.now.every } in
    let before : Streams = streams g.S.Source.left g.S.Counted.faults g.K.Sink.held g.K.Counted.faults c.args.input.now c.args.out.now in
    let sink : SinkState = record { held = g.K.Sink.held c.write_shown.new.out; faults = g.K.Counted.faults c.write_shown.new.out } in
    rw (p.1, p.2) (not_shown (c.args.input.now ≡ c.args.input.now) watch c.args.replica.now before c.each_stands.ensures c.in_ok-view.view c.in_ok-view.ensures.opens sink c.in_err-write_shown.field-0.0
    c.in_err-write_shown.ensures.written c.in_err-write_shown.ensures.later)

pub returns : goal.returns
returns g c =
    let watch : WatchData = record { text = c.args.what.now.text.now; every = c.args.what.now.every } in
    let before : Streams = streams g.S.Source.left g.S.Counted.faults g.K.Sink.held g.K.Counted.faults c.args.input.now c.args.out.now in
    let after : Streams = streams g.S.Source.left g.S.Counted.faults g.K.Sink.held g.K.Counted.faults c.follow-ended.new.input c.follow-ended.new.out in
    let sink : SinkState = record { held = g.K.Sink.held c.write_shown.new.out; faults = g.K.Counted.faults c.write_shown.new.out } in
    shown (c.follow-ended.new.input ≡ c.args.input.now) watch c.args.replica.now before c.each_stands.ensures c.in_ok-view.view c.in_ok-view.ensures.opens c.follow-ended.new.replica sink after
    (stop_of c.follow-ended.result) c.each_stands-2.ensures c.in_ok-write_shown.ensures.written c.in_ok-write_shown.ensures.later c.follow-ended.ensures
