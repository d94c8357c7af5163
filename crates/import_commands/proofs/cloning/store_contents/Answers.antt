use Rattle.std.proofs.Common.{◌≡◌, ◌∙◌, Err, ap, refl, subst, sym}
use Rattle.std.proofs.lemmas.Result.{err_from_is_err_and}
use Rattle.outcomes.proofs.Reading.{opened_out}
use Rattle.replica.specs.Replicas.{ReplicaState}
use Rattle.store_directory.specs.Standing.{Stands}
use Rattle.import_commands.specs.Making.{IsTextOf}
use Rattle.import_commands.proofs.Copying.{copied, keeps, uncopied, unopened_keeps, unopened_lacks}
use Rattle.import_commands.proofs.cloning.store_contents.Goals as goal

pub close-requires-clause-store_of : goal.close-requires-clause-store_of
close-requires-clause-store_of g c tells =
    (opened_out (g.H.Shelf.state c.args.shelf.now) (g.H.Shelf.state c.open.new.shelf) c.args.dir.now c.in_ok-opened.opened.store c.in_ok-opened.opened.key c.in_ok-opened.ensures.opens tells).0

pub close-requires-clause-key_of : goal.close-requires-clause-key_of
close-requires-clause-key_of g c tells =
    (opened_out (g.H.Shelf.state c.args.shelf.now) (g.H.Shelf.state c.open.new.shelf) c.args.dir.now c.in_ok-opened.opened.store c.in_ok-opened.opened.key c.in_ok-opened.ensures.opens tells).1

pub returns-in_err-opened-clause-lacks : goal.returns-in_err-opened-clause-lacks
returns-in_err-opened-clause-lacks g c =
    let p = err_from_is_err_and c.from_residual.result c.from_residual.ensures.1 in
    let e = c.in_err-opened.ensures in
    rw (p.1, p.2) (unopened_lacks c.args.dir.now (g.H.Shelf.state c.args.shelf.now) (g.H.Shelf.state c.open.new.shelf) (g.H.Counted.faults c.args.shelf.now) (g.H.Counted.faults c.open.new.shelf)
    c.requires c.in_err-opened.field-0.0 e.lets_go e.refused (λ is. e.store_failed (ap Err is)))

pub returns-in_err-opened-clause-keeps : goal.returns-in_err-opened-clause-keeps
returns-in_err-opened-clause-keeps g c =
    let e = c.in_err-opened.ensures in
    unopened_keeps c.args.dir.now (g.H.Shelf.state c.args.shelf.now) (g.H.Shelf.state c.open.new.shelf) (g.H.Counted.faults c.args.shelf.now) (g.H.Counted.faults c.open.new.shelf) c.requires e.lets_go e.later

pub returns-in_err-contents-clause-lacks : goal.returns-in_err-contents-clause-lacks
returns-in_err-contents-clause-lacks g c =
    let p = err_from_is_err_and c.from_residual-in_err-contents.result c.from_residual-in_err-contents.ensures.1 in
    let o = c.in_ok-opened.opened in
    rw (p.1, p.2) (uncopied c.args.dir.now (g.H.Shelf.state c.args.shelf.now) (g.H.Shelf.state c.close.new.shelf) (g.H.Counted.faults c.args.shelf.now) (g.H.Counted.faults c.close.new.shelf)
    c.requires c.one_schema.ensures (g.H.Shelf.state c.open.new.shelf) (g.H.Counted.faults c.open.new.shelf) o.store o.key c.in_ok-opened.ensures.opens c.close.ensures.closes (subst Stands (ap (λ s. s.store.replica) c.opened.view_is) c.in_err-contents.ensures.stands) c.in_ok-opened.ensures.later)

pub returns-in_err-contents-clause-keeps : goal.returns-in_err-contents-clause-keeps
returns-in_err-contents-clause-keeps g c =
    let o = c.in_ok-opened.opened in
    keeps c.args.dir.now (g.H.Shelf.state c.args.shelf.now) (g.H.Shelf.state c.close.new.shelf) (g.H.Counted.faults c.args.shelf.now) (g.H.Counted.faults c.close.new.shelf)
    c.requires c.one_schema.ensures (g.H.Shelf.state c.open.new.shelf) (g.H.Counted.faults c.open.new.shelf) o.store o.key c.in_ok-opened.ensures.opens c.close.ensures.closes (subst Stands (ap (λ s. s.store.replica) c.opened.view_is) c.in_err-contents.ensures.stands) c.in_ok-opened.ensures.later

pub returns-clause-copies : goal.returns-clause-copies
returns-clause-copies g c =
    let o = c.in_ok-opened.opened in
    let e = c.in_ok-contents.ensures in
    let same : c.opened.inside.0.0.replica ≡ o.store.replica = ap (λ s. s.store.replica) c.opened.view_is in (
      o.store.replica.history.schema,
      copied c.args.dir.now (g.H.Shelf.state c.args.shelf.now) (g.H.Shelf.state c.close.new.shelf) (g.H.Counted.faults c.args.shelf.now) (g.H.Counted.faults c.close.new.shelf)
          c.requires c.one_schema.ensures (g.H.Shelf.state c.open.new.shelf) (g.H.Counted.faults c.open.new.shelf) o.store o.key c.in_ok-opened.ensures.opens c.close.ensures.closes (subst Stands same e.stands)
          c.in_ok-opened.ensures.later o.store.replica.history.schema c.in_ok-contents.field-0.updates.items refl (sym (e.updates ∙ ap (λ (r : ReplicaState). r.history.members) same)),
      subst (λ (r : ReplicaState). IsTextOf r.history.schema c.in_ok-contents.field-0.database c.in_ok-contents.field-0.text.items) same e.text,
    )

pub returns-clause-keeps : goal.returns-clause-keeps
returns-clause-keeps g c =
    let o = c.in_ok-opened.opened in
    keeps c.args.dir.now (g.H.Shelf.state c.args.shelf.now) (g.H.Shelf.state c.close.new.shelf) (g.H.Counted.faults c.args.shelf.now) (g.H.Counted.faults c.close.new.shelf)
    c.requires c.one_schema.ensures (g.H.Shelf.state c.open.new.shelf) (g.H.Counted.faults c.open.new.shelf) o.store o.key c.in_ok-opened.ensures.opens c.close.ensures.closes (subst Stands (ap (λ s. s.store.replica) c.opened.view_is) c.in_ok-contents.ensures.stands) c.in_ok-opened.ensures.later
