use Rattle.std.proofs.Common.{Err, ap, refl, subst, sym}
use Rattle.std.proofs.lemmas.Result.{err_from_is_err_and}
use Rattle.store_directory.specs.declared.opening.Needs.TheVariants as needed
use Rattle.store_directory.specs.Holding.{OpenData}
use Rattle.store_directory.specs.Opening.{Opens}
use Rattle.net_commands.proofs.Open.{no_key_still_out, peers_home, store_still_out, syncs_closed, syncs_refused}
use Rattle.net_commands.proofs.syncing.sync.Goals as goal

pub sync_open-replica-requires-clause-peers_in : goal.sync_open-replica-requires-clause-peers_in
sync_open-replica-requires-clause-peers_in g c κs lives =
    peers_home c.args.directory.now (g.H.Shelf.state c.args.shelf.now) (g.H.Shelf.state c.open.new.shelf) c.in_ok-opened.opened.store c.in_ok-opened.opened.key c.requires.home c.in_ok-opened.ensures.opens

pub close-requires-clause-store_of : goal.close-requires-clause-store_of
close-requires-clause-store_of g c tells =
    let o : OpenData = record { schema = g.H.D.Disk.state c.store.inside.schema; schema_faults = g.H.D.Counted.faults c.store.inside.schema; replica = c.store.inside.replica } in
    let before = g.H.Shelf.state c.args.shelf.now in
    let mid = g.H.Shelf.state c.open.new.shelf in
    let dir = c.args.directory.now in
    let key = c.in_ok-opened.opened.key in
    let opens : Opens needed.Store before dir o key mid = subst (λ (w : OpenData). Opens needed.Store before dir w key mid) (sym c.store.view_is) c.in_ok-opened.ensures.opens in
    let e = c.sync_open-replica.ensures in
    store_still_out dir before mid (g.H.Shelf.state c.sync_open-replica.new.shelf) o key c.sync_open-replica.result.0 opens e.keeps tells e.holds.disk.slot

pub close-requires-clause-key_of : goal.close-requires-clause-key_of
close-requires-clause-key_of g c tells =
    no_key_still_out c.args.directory.now (g.H.Shelf.state c.args.shelf.now) (g.H.Shelf.state c.open.new.shelf) (g.H.Shelf.state c.sync_open-replica.new.shelf) c.in_ok-opened.opened.store c.in_ok-opened.opened.key
    c.sync_open-replica.result.0 c.in_ok-opened.ensures.opens c.sync_open-replica.ensures.keeps tells

pub returns-in_err-opened : goal.returns-in_err-opened
returns-in_err-opened g c =
    let p = err_from_is_err_and c.from_residual.result c.from_residual.ensures.1 in
    let e = c.in_err-opened.ensures in
    rw (p.1, p.2) (syncs_refused c.args.directory.now c.args.address.now (g.H.Shelf.state c.args.shelf.now) (g.H.Shelf.state c.open.new.shelf) (g.N.Net.state c.args.net.now) (g.N.Net.state c.args.net.now)
    (g.H.Counted.faults c.args.shelf.now) (g.H.Counted.faults c.open.new.shelf) (g.N.Counted.faults c.args.net.now) (g.N.Counted.faults c.args.net.now)
    c.in_err-opened.field-0.0 c.requires.home e.lets_go e.refused (λ is. e.store_failed (ap Err is)) refl)

pub returns : goal.returns
returns g c =
    let o : OpenData = record { schema = g.H.D.Disk.state c.store.inside.schema; schema_faults = g.H.D.Counted.faults c.store.inside.schema; replica = c.store.inside.replica } in
    let before = g.H.Shelf.state c.args.shelf.now in
    let mid = g.H.Shelf.state c.open.new.shelf in
    let dir = c.args.directory.now in
    let key = c.in_ok-opened.opened.key in
    let opens : Opens needed.Store before dir o key mid = subst (λ (w : OpenData). Opens needed.Store before dir w key mid) (sym c.store.view_is) c.in_ok-opened.ensures.opens in
    syncs_closed dir c.args.address.now before (g.H.Shelf.state c.close.new.shelf) (g.N.Net.state c.args.net.now) (g.N.Net.state c.sync_open-replica.new.net)
    (g.H.Counted.faults c.args.shelf.now) (g.H.Counted.faults c.close.new.shelf) (g.N.Counted.faults c.args.net.now) (g.N.Counted.faults c.sync_open-replica.new.net)
    c.one_schema.ensures mid (g.H.Shelf.state c.sync_open-replica.new.shelf) (g.H.Counted.faults c.open.new.shelf) (g.H.Counted.faults c.sync_open-replica.new.shelf) o key c.sync_open-replica.result.0
    c.sync_open-replica.result.1 c.requires.home opens c.sync_open-replica.ensures c.in_ok-opened.ensures.later c.close.ensures.closes
