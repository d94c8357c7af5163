use Rattle.std.proofs.Common.{Err, ap, subst, sym, ◌∙◌}
use Rattle.std.proofs.lemmas.Result.{err_from_is_err_and}
use Rattle.row_check.specs.Checksum.{is_luhn}
use Rattle.store_directory.specs.Holding.{OpenData, TakesStore}
use Rattle.store_directory.proofs.OnceOpen.{disks_of, no_key_out, store_closed, store_opened}
use Rattle.node_commands.proofs.Merging.{first_kept, merges_taken, merges_unopened}
use Rattle.node_commands.proofs.commands.merge.merge.Goals as goal

pub close-requires-clause-store_of : goal.close-requires-clause-store_of
close-requires-clause-store_of g c tells =
    let o : OpenData = record { schema = g.H.D.Disk.state c.one.inside.0.0.schema; schema_faults = g.H.D.Counted.faults c.one.inside.0.0.schema; replica = c.one.inside.0.0.replica } in
    let before = g.H.Shelf.state c.args.shelf.now in
    let opened = g.H.Shelf.state c.open.new.shelf in
    let closing = g.H.Shelf.state c.merge_beside-outcome.new.shelf in
    let is = store_opened before opened c.args.first.now c.in_ok-one.one.store c.in_ok-one.one.key c.in_ok-one.ensures.opens in
    let takes : TakesStore is_luhn before c.args.first.now o opened = subst (λ (w : OpenData). TakesStore is_luhn before c.args.first.now w opened) (sym (ap (λ s. s.store) c.one.view_is)) is.0 in
    let e = c.merge_beside-outcome.ensures in
    let disks = disks_of c.args.first.now before opened closing o c.merge_beside-outcome.new.one takes e.tells e.slot (first_kept c.args.first.now c.args.second.now c.requires.differ opened closing e.others) tells in
    record { schema_of = disks.0; updates_of = disks.1 }

pub close-requires-clause-key_of : goal.close-requires-clause-key_of
close-requires-clause-key_of g c tells =
    let before = g.H.Shelf.state c.args.shelf.now in
    let opened = g.H.Shelf.state c.open.new.shelf in
    no_key_out (g.H.Shelf.state c.merge_beside-outcome.new.shelf) c.args.first.now c.one.inside.0.1.0 (ap (λ s. s.key) c.one.view_is ∙ (store_opened before opened c.args.first.now c.in_ok-one.one.store c.in_ok-one.one.key c.in_ok-one.ensures.opens).1)

pub returns-in_err-one : goal.returns-in_err-one
returns-in_err-one g c =
    let p = err_from_is_err_and c.from_residual.result c.from_residual.ensures.1 in
    let e = c.in_err-one.ensures in
    rw (p.1, p.2) (merges_unopened c.args.first.now c.args.second.now c.requires.differ (g.H.Shelf.state c.args.shelf.now) (g.H.Shelf.state c.open.new.shelf) (g.H.Counted.faults c.args.shelf.now) (g.H.Counted.faults c.open.new.shelf)
    c.in_err-one.field-0.0 c.requires.home e.lets_go e.refused (λ is. e.store_failed (ap Err is)))

pub returns : goal.returns
returns g c =
    let o : OpenData = record { schema = g.H.D.Disk.state c.one.inside.0.0.schema; schema_faults = g.H.D.Counted.faults c.one.inside.0.0.schema; replica = c.one.inside.0.0.replica } in
    let before = g.H.Shelf.state c.args.shelf.now in
    let opened = g.H.Shelf.state c.open.new.shelf in
    let closing = g.H.Shelf.state c.merge_beside-outcome.new.shelf in
    let is = store_opened before opened c.args.first.now c.in_ok-one.one.store c.in_ok-one.one.key c.in_ok-one.ensures.opens in
    let takes : TakesStore is_luhn before c.args.first.now o opened = subst (λ (w : OpenData). TakesStore is_luhn before c.args.first.now w opened) (sym (ap (λ s. s.store) c.one.view_is)) is.0 in
    let e = c.merge_beside-outcome.ensures in
    let closes = store_closed closing (g.H.Shelf.state c.close.new.shelf) (g.H.Counted.faults c.merge_beside-outcome.new.shelf) (g.H.Counted.faults c.close.new.shelf) c.args.first.now _ c.one.inside.0.1.0 (ap (λ s. s.key) c.one.view_is ∙ is.1) c.close.ensures.closes in
    merges_taken c.args.first.now c.args.second.now c.requires.differ before (g.H.Shelf.state c.close.new.shelf) (g.H.Counted.faults c.args.shelf.now) (g.H.Counted.faults c.close.new.shelf)
    c.one_schema.ensures opened closing (g.H.Counted.faults c.open.new.shelf) (g.H.Counted.faults c.merge_beside-outcome.new.shelf) o c.merge_beside-outcome.new.one c.merge_beside-outcome.result c.requires.home
    takes e closes.puts c.in_ok-one.ensures.later closes.later closes.log_faulted
