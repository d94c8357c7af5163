use Rattle.std.proofs.Common.{◌≡◌, Err, ap, refl, subst, sym, ◌∙◌}
use Rattle.std.proofs.lemmas.Result.{err_from_is_err_and}
use Rattle.row_check.specs.Checksum.{is_luhn}
use Rattle.store_directory.specs.Holding.{OpenData, TakesStore}
use Rattle.store_directory.proofs.OnceOpen.{no_key_out, store_closed, store_opened}
use Rattle.watch_command.specs.Ending.{Streams, stop_of, streams}
use Rattle.watch_command.specs.Watching.{WatchData}
use Rattle.watch_command.proofs.Shelving.{store_out, stored, unopened}
use Rattle.watch_command.proofs.watching.watch_shelf.Goals as goal

pub returns-in_err-opened : goal.returns-in_err-opened
returns-in_err-opened g c =
    let p = err_from_is_err_and c.from_residual.result c.from_residual.ensures.1 in
    let watch : WatchData = record { text = c.args.what.now.text.now; every = c.args.what.now.every } in
    let before : Streams = streams g.S.Source.left g.S.Counted.faults g.K.Sink.held g.K.Counted.faults c.args.input.now c.args.out.now in
    let e = c.in_err-opened.ensures in
    rw (p.1, p.2) (unopened (c.args.input.now ≡ c.args.input.now) watch c.args.what.now.directory.now (g.H.Shelf.state c.args.shelf.now) (g.H.Shelf.state c.open.new.shelf)
    (g.H.Counted.faults c.args.shelf.now) (g.H.Counted.faults c.open.new.shelf) before c.in_err-opened.field-0.0 refl c.requires e.lets_go e.refused (λ is. e.store_failed (ap Err is)))

pub close-requires-clause-store_of : goal.close-requires-clause-store_of
close-requires-clause-store_of g c tells =
    let watch : WatchData = record { text = c.args.what.now.text.now; every = c.args.what.now.every } in
    let dir = c.args.what.now.directory.now in
    let o : OpenData = record { schema = g.H.D.Disk.state c.opened.inside.0.0.schema; schema_faults = g.H.D.Counted.faults c.opened.inside.0.0.schema; replica = c.opened.inside.0.0.replica } in
    let before = g.H.Shelf.state c.args.shelf.now in
    let opened = g.H.Shelf.state c.open.new.shelf in
    let is = store_opened before opened dir c.in_ok-opened.opened.store c.in_ok-opened.opened.key c.in_ok-opened.ensures.opens in
    let takes : TakesStore is_luhn before dir o opened = subst (λ (w : OpenData). TakesStore is_luhn before dir w opened) (sym (ap (λ s. s.store) c.opened.view_is)) is.0 in
    let old : Streams = streams g.S.Source.left g.S.Counted.faults g.K.Sink.held g.K.Counted.faults c.args.input.now c.args.out.now in
    let new : Streams = streams g.S.Source.left g.S.Counted.faults g.K.Sink.held g.K.Counted.faults c.watch_open-ended.new.input c.watch_open-ended.new.out in
    store_out (c.watch_open-ended.new.input ≡ c.args.input.now) watch dir before opened (g.H.Counted.faults c.args.shelf.now) (g.H.Counted.faults c.open.new.shelf)
    c.one_schema.ensures opened (g.H.Counted.faults c.open.new.shelf) o c.watch_open-ended.new.replica old new (stop_of c.watch_open-ended.result) c.requires takes c.watch_open-ended.ensures tells

pub close-requires-clause-key_of : goal.close-requires-clause-key_of
close-requires-clause-key_of g c tells =
    let dir = c.args.what.now.directory.now in
    let before = g.H.Shelf.state c.args.shelf.now in
    let opened = g.H.Shelf.state c.open.new.shelf in
    no_key_out opened dir c.opened.inside.0.1.0 (ap (λ s. s.key) c.opened.view_is ∙ (store_opened before opened dir c.in_ok-opened.opened.store c.in_ok-opened.opened.key c.in_ok-opened.ensures.opens).1)

pub returns : goal.returns
returns g c =
    let watch : WatchData = record { text = c.args.what.now.text.now; every = c.args.what.now.every } in
    let dir = c.args.what.now.directory.now in
    let o : OpenData = record { schema = g.H.D.Disk.state c.opened.inside.0.0.schema; schema_faults = g.H.D.Counted.faults c.opened.inside.0.0.schema; replica = c.opened.inside.0.0.replica } in
    let before = g.H.Shelf.state c.args.shelf.now in
    let opened = g.H.Shelf.state c.open.new.shelf in
    let after = g.H.Shelf.state c.close.new.shelf in
    let is = store_opened before opened dir c.in_ok-opened.opened.store c.in_ok-opened.opened.key c.in_ok-opened.ensures.opens in
    let takes : TakesStore is_luhn before dir o opened = subst (λ (w : OpenData). TakesStore is_luhn before dir w opened) (sym (ap (λ s. s.store) c.opened.view_is)) is.0 in
    let old : Streams = streams g.S.Source.left g.S.Counted.faults g.K.Sink.held g.K.Counted.faults c.args.input.now c.args.out.now in
    let new : Streams = streams g.S.Source.left g.S.Counted.faults g.K.Sink.held g.K.Counted.faults c.watch_open-ended.new.input c.watch_open-ended.new.out in
    let closes = store_closed opened after (g.H.Counted.faults c.open.new.shelf) (g.H.Counted.faults c.close.new.shelf) dir _ c.opened.inside.0.1.0 (ap (λ s. s.key) c.opened.view_is ∙ is.1) c.close.ensures.closes in
    stored (c.watch_open-ended.new.input ≡ c.args.input.now) watch dir before after (g.H.Counted.faults c.args.shelf.now) (g.H.Counted.faults c.close.new.shelf)
    c.one_schema.ensures opened (g.H.Counted.faults c.open.new.shelf) o c.watch_open-ended.new.replica old new (stop_of c.watch_open-ended.result) c.requires takes c.watch_open-ended.ensures
    closes.puts c.in_ok-opened.ensures.later closes.log_faulted
