use Rattle.std.proofs.Common.{◌≡◌, Err, Ok, ap, inl, inr, refl, subst}
use Rattle.std.proofs.lemmas.Result.{err_from_is_err_and}
use Rattle.replica.specs.Replicas.{ReplicaState}
use Rattle.store_directory.specs.Holding.{OpenData}
use Rattle.store_directory.specs.Standing.{Stands}
use Rattle.store_directory.proofs.Working.{store_of}
use Rattle.outcomes.specs.StoreAnswers.{Printing}
use Rattle.outcomes.proofs.Reading.{open_answered, open_refused, opened_out}
use Rattle.audit_commands.specs.Audits.{ShowsDoubled}
use Rattle.audit_commands.proofs.auditing.audit.Goals as goal

pub close-requires-clause-store_of : goal.close-requires-clause-store_of
close-requires-clause-store_of g c tells =
    (opened_out (g.H.Shelf.state c.args.shelf.now) (g.H.Shelf.state c.open.new.shelf) c.args.dir.now c.in_ok-opened.opened.store c.in_ok-opened.opened.key c.in_ok-opened.ensures.opens tells).0

pub close-requires-clause-key_of : goal.close-requires-clause-key_of
close-requires-clause-key_of g c tells =
    (opened_out (g.H.Shelf.state c.args.shelf.now) (g.H.Shelf.state c.open.new.shelf) c.args.dir.now c.in_ok-opened.opened.store c.in_ok-opened.opened.key c.in_ok-opened.ensures.opens tells).1

pub returns-in_err-opened : goal.returns-in_err-opened
returns-in_err-opened g c =
    let p = err_from_is_err_and c.from_residual.result c.from_residual.ensures.1 in
    let e = c.in_err-opened.ensures in
    rw (p.1, p.2) (open_refused (Printing ShowsDoubled) c.args.dir.now (g.H.Shelf.state c.args.shelf.now) (g.H.Shelf.state c.open.new.shelf) (g.H.Counted.faults c.args.shelf.now) (g.H.Counted.faults c.open.new.shelf)
    c.in_err-opened.field-0.0 c.requires e.lets_go e.refused (λ is. e.store_failed (ap Err is)))

pub returns-in_err-text : goal.returns-in_err-text
returns-in_err-text g c =
    let p = err_from_is_err_and c.from_residual-in_err-text.result c.from_residual-in_err-text.ensures.1 in
    let o = c.in_ok-opened.opened in
    rw (p.1, p.2) (open_answered (Printing ShowsDoubled) c.args.dir.now (g.H.Shelf.state c.args.shelf.now) (g.H.Shelf.state c.close.new.shelf) (g.H.Counted.faults c.args.shelf.now) (g.H.Counted.faults c.close.new.shelf)
    c.one_schema.ensures (g.H.Shelf.state c.open.new.shelf) (g.H.Counted.faults c.open.new.shelf) o.store o.key (Err _) c.requires c.in_ok-opened.ensures.opens c.close.ensures.closes c.in_err-text.ensures.stands (inr refl))

pub returns : goal.returns
returns g c =
    let o = c.in_ok-opened.opened in
    let stands = c.in_ok-text.ensures.stands in
    let found = c.in_ok-text.ensures.found in
    let here : ShowsDoubled (store_of o.store.replica) c.in_ok-text.field-0.items = (found.0, record { taken = stands.history_is.members; found = found.1 }, found.2) in
    open_answered (Printing ShowsDoubled) c.args.dir.now (g.H.Shelf.state c.args.shelf.now) (g.H.Shelf.state c.close.new.shelf) (g.H.Counted.faults c.args.shelf.now) (g.H.Counted.faults c.close.new.shelf)
    c.one_schema.ensures (g.H.Shelf.state c.open.new.shelf) (g.H.Counted.faults c.open.new.shelf) o.store o.key (Ok c.in_ok-text.field-0) c.requires c.in_ok-opened.ensures.opens c.close.ensures.closes stands
    (inl (c.in_ok-text.field-0.items, here, refl))
