use Rattle.std.proofs.Common.{◌≡◌, refl}
use Rattle.outcomes.proofs.StoreOnce.{StoreLaws}
use Rattle.watch_command.specs.Ending.{Streams, stop_of, streams}
use Rattle.watch_command.specs.Watching.{WatchData}
use Rattle.watch_command.proofs.Once.{TextLaws}
use Rattle.watch_command.proofs.Shelving.{ended}
use Rattle.watch_command.proofs.watching.watch.Goals as goal

pub returns : goal.returns
returns g c =
    let watch : WatchData = record { text = c.args.what.now.text.now; every = c.args.what.now.every } in
    let before : Streams = streams g.S.Source.left g.S.Counted.faults g.K.Sink.held g.K.Counted.faults c.args.input.now c.args.out.now in
    let between : Streams = streams g.S.Source.left g.S.Counted.faults g.K.Sink.held g.K.Counted.faults c.watch_shelf-ended.new.input c.watch_shelf-ended.new.out in
    let after : Streams = streams g.S.Source.left g.S.Counted.faults g.K.Sink.held g.K.Counted.faults c.watch_shelf-ended.new.input c.end.new.out in
    let stores : StoreLaws = record {
      one_store = c.one_store.ensures;
      not_bad = c.store_or_not.ensures.not_bad;
      no_store = c.store_or_not.ensures.no_store;
      bad_store = c.store_or_not.ensures.bad_store;
    } in
    let texts : TextLaws = record { one_query = c.one_query.ensures; one_fault = c.one_fault.ensures; no_fault = c.no_fault.ensures } in
    let shelf = c.watch_shelf-ended.ensures in
    ended (c.watch_shelf-ended.new.input ≡ c.args.input.now) watch c.args.what.now.directory.now (g.H.Shelf.state c.args.shelf.now) (g.H.Shelf.state c.watch_shelf-ended.new.shelf)
    (g.H.Counted.faults c.args.shelf.now) (g.H.Counted.faults c.watch_shelf-ended.new.shelf) before between after (stop_of c.watch_shelf-ended.result) c.end.result refl refl shelf
    (c.end.ensures before.sink shelf.text shelf.written shelf.sink_later) stores texts
