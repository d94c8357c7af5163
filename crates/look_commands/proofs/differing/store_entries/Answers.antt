use Rattle.std.proofs.Common.{◌≡◌, ap, Err, rules, subst}
use Rattle.std.proofs.lemmas.Result.{err_from_is_err_and}
use Rattle.replica.specs.Replicas.{ReplicaState}
use Rattle.store_directory.specs.Standing.{Stands}
use Rattle.look_commands.specs.Bundles.{AreEntriesOf}
use Rattle.outcomes.proofs.Reading.{opened_out}
use Rattle.look_commands.proofs.Sides.{listed_whole, unlisted, unopened}
use Rattle.look_commands.proofs.differing.store_entries.Goals as goal

pub close-requires-clause-store_of : goal.close-requires-clause-store_of
close-requires-clause-store_of g c tells =
    (opened_out (g.H.Shelf.state c.args.shelf.now) (g.H.Shelf.state c.open.new.shelf) c.args.dir.now c.in_ok-opened.opened.store c.in_ok-opened.opened.key c.in_ok-opened.ensures.opens tells).0

pub close-requires-clause-key_of : goal.close-requires-clause-key_of
close-requires-clause-key_of g c tells =
    (opened_out (g.H.Shelf.state c.args.shelf.now) (g.H.Shelf.state c.open.new.shelf) c.args.dir.now c.in_ok-opened.opened.store c.in_ok-opened.opened.key c.in_ok-opened.ensures.opens tells).1

pub returns-in_err-opened : goal.returns-in_err-opened
returns-in_err-opened g c =
    let p = err_from_is_err_and c.from_residual.result c.from_residual.ensures.1 in
    let e = c.in_err-opened.ensures in
    rw (p.1, p.2) (unopened c.args.dir.now (g.H.Shelf.state c.args.shelf.now) (g.H.Shelf.state c.open.new.shelf) (g.H.Counted.faults c.args.shelf.now) (g.H.Counted.faults c.open.new.shelf)
    c.requires c.in_err-opened.field-0.0 e.lets_go e.refused (λ is. e.store_failed (ap Err is)) e.later)

pub returns-in_err-entries : goal.returns-in_err-entries
returns-in_err-entries g c =
    let p = err_from_is_err_and c.from_residual-in_err-entries.result c.from_residual-in_err-entries.ensures.1 in
    let o = c.in_ok-opened.opened in
    let same : c.opened.inside.0.0.replica ≡ o.store.replica = search rules in
    rw (p.1, p.2) (unlisted c.args.dir.now (g.H.Shelf.state c.args.shelf.now) (g.H.Shelf.state c.close.new.shelf) (g.H.Counted.faults c.args.shelf.now) (g.H.Counted.faults c.close.new.shelf)
    c.requires c.one_schema.ensures (g.H.Shelf.state c.open.new.shelf) (g.H.Counted.faults c.open.new.shelf) o.store o.key c.in_ok-opened.ensures.opens c.close.ensures.closes (subst Stands same c.in_err-entries.ensures.stands) c.in_ok-opened.ensures.later)

pub returns : goal.returns
returns g c =
    let o = c.in_ok-opened.opened in
    let same : c.opened.inside.0.0.replica ≡ o.store.replica = search rules in
    listed_whole c.args.dir.now (g.H.Shelf.state c.args.shelf.now) (g.H.Shelf.state c.close.new.shelf) (g.H.Counted.faults c.args.shelf.now) (g.H.Counted.faults c.close.new.shelf)
    c.requires c.one_schema.ensures (g.H.Shelf.state c.open.new.shelf) (g.H.Counted.faults c.open.new.shelf) o.store o.key c.in_ok-opened.ensures.opens c.close.ensures.closes (subst Stands same c.in_ok-entries.ensures.stands)
    c.in_ok-opened.ensures.later c.in_ok-entries.field-0
    (subst (λ (r : ReplicaState). AreEntriesOf r.history.schema r.history.members c.in_ok-entries.field-0.items) same c.in_ok-entries.ensures.entries)
