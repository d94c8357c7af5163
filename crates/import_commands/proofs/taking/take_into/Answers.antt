use Rattle.std.proofs.Common.{Err, ap, subst, sym, ◌∙◌}
use Rattle.std.proofs.lemmas.Result.{err_from_is_err_and}
use Rattle.row_check.specs.Checksum.{is_luhn}
use Rattle.store_directory.specs.Holding.{OpenData, TakesStore}
use Rattle.store_directory.proofs.OnceOpen.{no_key_out, store_closed, store_opened}
use Rattle.import_commands.specs.Taking.{ContentsData}
use Rattle.import_commands.proofs.Shelving.{store_out, stored, unopened}
use Rattle.import_commands.proofs.taking.take_into.Goals as goal

pub returns-in_err-opened : goal.returns-in_err-opened
returns-in_err-opened g c =
    let p = err_from_is_err_and c.from_residual.result c.from_residual.ensures.1 in
    let contents : ContentsData = record { text = c.args.contents.text.items; updates = c.args.contents.updates.items } in
    let e = c.in_err-opened.ensures in
    rw (p.1, p.2) (unopened contents c.args.lines.items c.args.dir.now (g.H.Shelf.state c.args.shelf.now) (g.H.Shelf.state c.open.new.shelf)
    (g.H.Counted.faults c.args.shelf.now) (g.H.Counted.faults c.open.new.shelf) c.in_err-opened.field-0.0 c.requires.home e.lets_go e.refused (λ is. e.store_failed (ap Err is)) e.later)

pub close-requires-clause-store_of : goal.close-requires-clause-store_of
close-requires-clause-store_of g c tells =
    let contents : ContentsData = record { text = c.args.contents.text.items; updates = c.args.contents.updates.items } in
    let dir = c.args.dir.now in
    let o : OpenData = record { schema = g.H.D.Disk.state c.opened.inside.0.0.schema; schema_faults = g.H.D.Counted.faults c.opened.inside.0.0.schema; replica = c.opened.inside.0.0.replica } in
    let before = g.H.Shelf.state c.args.shelf.now in
    let opened = g.H.Shelf.state c.open.new.shelf in
    let is = store_opened before opened dir c.in_ok-opened.opened.store c.in_ok-opened.opened.key c.in_ok-opened.ensures.opens in
    let takes : TakesStore is_luhn before dir o opened = subst (λ (w : OpenData). TakesStore is_luhn before dir w opened) (sym (ap (λ s. s.store) c.opened.view_is)) is.0 in
    store_out contents c.args.lines.items dir before opened (g.H.Counted.faults c.args.shelf.now) (g.H.Counted.faults c.open.new.shelf)
    c.one_schema.ensures opened (g.H.Counted.faults c.open.new.shelf) o c.take_open-outcome.new.replica c.take_open-outcome.result c.requires.home takes c.take_open-outcome.ensures tells

pub close-requires-clause-key_of : goal.close-requires-clause-key_of
close-requires-clause-key_of g c tells =
    let dir = c.args.dir.now in
    let before = g.H.Shelf.state c.args.shelf.now in
    let opened = g.H.Shelf.state c.open.new.shelf in
    no_key_out opened dir c.opened.inside.0.1.0 (ap (λ s. s.key) c.opened.view_is ∙ (store_opened before opened dir c.in_ok-opened.opened.store c.in_ok-opened.opened.key c.in_ok-opened.ensures.opens).1)

pub returns : goal.returns
returns g c =
    let contents : ContentsData = record { text = c.args.contents.text.items; updates = c.args.contents.updates.items } in
    let dir = c.args.dir.now in
    let o : OpenData = record { schema = g.H.D.Disk.state c.opened.inside.0.0.schema; schema_faults = g.H.D.Counted.faults c.opened.inside.0.0.schema; replica = c.opened.inside.0.0.replica } in
    let before = g.H.Shelf.state c.args.shelf.now in
    let opened = g.H.Shelf.state c.open.new.shelf in
    let after = g.H.Shelf.state c.close.new.shelf in
    let is = store_opened before opened dir c.in_ok-opened.opened.store c.in_ok-opened.opened.key c.in_ok-opened.ensures.opens in
    let takes : TakesStore is_luhn before dir o opened = subst (λ (w : OpenData). TakesStore is_luhn before dir w opened) (sym (ap (λ s. s.store) c.opened.view_is)) is.0 in
    let closes = store_closed opened after (g.H.Counted.faults c.open.new.shelf) (g.H.Counted.faults c.close.new.shelf) dir _ c.opened.inside.0.1.0 (ap (λ s. s.key) c.opened.view_is ∙ is.1) c.close.ensures.closes in
    stored contents c.args.lines.items dir before after (g.H.Counted.faults c.args.shelf.now) (g.H.Counted.faults c.close.new.shelf)
    c.one_schema.ensures opened (g.H.Counted.faults c.open.new.shelf) o c.take_open-outcome.new.replica c.take_open-outcome.result c.requires.home takes c.take_open-outcome.ensures
    closes.puts c.in_ok-opened.ensures.later closes.later closes.log_faulted
