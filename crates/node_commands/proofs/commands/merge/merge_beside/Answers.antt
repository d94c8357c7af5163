use Rattle.std.proofs.Common.{Err, ap, subst, sym, ◌∙◌}
use Rattle.std.proofs.lemmas.Result.{err_from_is_err_and}
use Rattle.row_check.specs.Checksum.{is_luhn}
use Rattle.store_directory.specs.Holding.{OpenData, TakesStore}
use Rattle.store_directory.proofs.OnceOpen.{disks_of, no_key_out, store_closed, store_opened}
use Rattle.node_commands.proofs.Merging.{beside_taken, beside_unopened, second_kept}
use Rattle.node_commands.proofs.commands.merge.merge_beside.Goals as goal

pub close-requires-clause-store_of : goal.close-requires-clause-store_of
close-requires-clause-store_of g c tells =
    let o : OpenData = record { schema = g.H.D.Disk.state c.other.inside.0.0.schema; schema_faults = g.H.D.Counted.faults c.other.inside.0.0.schema; replica = c.other.inside.0.0.replica } in
    let before = g.H.Shelf.state c.args.shelf.now in
    let opened = g.H.Shelf.state c.open.new.shelf in
    let closing = g.H.Shelf.state c.merge_open-outcome.new.shelf in
    let is = store_opened before opened c.args.second.now c.in_ok-other.other.store c.in_ok-other.other.key c.in_ok-other.ensures.opens in
    let takes : TakesStore is_luhn before c.args.second.now o opened = subst (λ (w : OpenData). TakesStore is_luhn before c.args.second.now w opened) (sym (ap (λ s. s.store) c.other.view_is)) is.0 in
    let e = c.merge_open-outcome.ensures in
    let disks = disks_of c.args.second.now before opened closing o c.merge_open-outcome.new.other takes e.tells e.slot_other (second_kept c.args.first.now c.args.second.now c.requires.differ opened closing e.others) tells in
    record { schema_of = disks.0; updates_of = disks.1 }

pub close-requires-clause-key_of : goal.close-requires-clause-key_of
close-requires-clause-key_of g c tells =
    let before = g.H.Shelf.state c.args.shelf.now in
    let opened = g.H.Shelf.state c.open.new.shelf in
    no_key_out (g.H.Shelf.state c.merge_open-outcome.new.shelf) c.args.second.now c.other.inside.0.1.0 (ap (λ s. s.key) c.other.view_is ∙ (store_opened before opened c.args.second.now c.in_ok-other.other.store c.in_ok-other.other.key c.in_ok-other.ensures.opens).1)

pub returns-in_err-other : goal.returns-in_err-other
returns-in_err-other g c =
    let p = err_from_is_err_and c.from_residual.result c.from_residual.ensures.1 in
    let e = c.in_err-other.ensures in
    rw (p.1, p.2) (beside_unopened c.args.first.now c.args.second.now c.requires.differ (g.H.Shelf.state c.args.shelf.now) (g.H.Shelf.state c.open.new.shelf) (g.H.Counted.faults c.args.shelf.now) (g.H.Counted.faults c.open.new.shelf)
    c.args.one.now c.in_err-other.field-0.0 c.each_stands.ensures e.lets_go e.refused (λ is. e.store_failed (ap Err is)) e.later)

pub returns : goal.returns
returns g c =
    let o : OpenData = record { schema = g.H.D.Disk.state c.other.inside.0.0.schema; schema_faults = g.H.D.Counted.faults c.other.inside.0.0.schema; replica = c.other.inside.0.0.replica } in
    let before = g.H.Shelf.state c.args.shelf.now in
    let opened = g.H.Shelf.state c.open.new.shelf in
    let closing = g.H.Shelf.state c.merge_open-outcome.new.shelf in
    let is = store_opened before opened c.args.second.now c.in_ok-other.other.store c.in_ok-other.other.key c.in_ok-other.ensures.opens in
    let takes : TakesStore is_luhn before c.args.second.now o opened = subst (λ (w : OpenData). TakesStore is_luhn before c.args.second.now w opened) (sym (ap (λ s. s.store) c.other.view_is)) is.0 in
    let e = c.merge_open-outcome.ensures in
    let closes = store_closed closing (g.H.Shelf.state c.close.new.shelf) (g.H.Counted.faults c.merge_open-outcome.new.shelf) (g.H.Counted.faults c.close.new.shelf) c.args.second.now _ c.other.inside.0.1.0 (ap (λ s. s.key) c.other.view_is ∙ is.1) c.close.ensures.closes in
    beside_taken c.args.first.now c.args.second.now c.requires.differ before (g.H.Shelf.state c.close.new.shelf) (g.H.Counted.faults c.args.shelf.now) (g.H.Counted.faults c.close.new.shelf)
    c.args.one.now c.merge_open-outcome.new.one c.one_schema.ensures opened closing (g.H.Counted.faults c.open.new.shelf) (g.H.Counted.faults c.merge_open-outcome.new.shelf) o c.merge_open-outcome.new.other c.merge_open-outcome.result
    takes e closes.puts c.in_ok-other.ensures.later closes.later closes.log_faulted
