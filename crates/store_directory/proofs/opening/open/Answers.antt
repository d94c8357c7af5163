use Rattle.std.proofs.Common.{◌≡◌, ap, subst}
use Rattle.store_directory.specs.declared.opening.Needs.{Needs}
use Rattle.store_directory.specs.Holding.{OpenData}
use Rattle.store_directory.specs.Opening.{IsKeyIn}
use Rattle.store_directory.specs.Standing.{Stands}
use Rattle.store_directory.proofs.OnceOpen.{key_cause, key_refused}
use Rattle.store_directory.proofs.opening.open.Goals as goal

pub returns-in-Err-clause-lets_go : goal.returns-in-Err-clause-lets_go
returns-in-Err-clause-lets_go g c =
    let before = g.H.Shelf.state c.args.shelf.now in
    let taken = c.in_ok-store.store in
    let same : c.store.inside.replica ≡ taken.replica = ap (λ (o : OpenData). o.replica) c.store.view_is in
    rw c.in-StoreAndKey.is (key_refused before (g.H.Shelf.state c.take_store.new.shelf) (g.H.Shelf.state c.take_key.new.shelf) c.args.dir.now taken c.in_ok-store.ensures.takes c.one_schema.ensures (g.H.Shelf.state c.put_store.new.shelf)
    (λ tells. subst (λ (n : Needs). IsKeyIn n before c.args.dir.now) c.in-StoreAndKey.is (c.requires.key_in tells)) (subst Stands same c.each_stands.ensures) c.in-Err.ensures.lets_go c.put_store.ensures.puts)

pub returns-in-Err-clause-refused : goal.returns-in-Err-clause-refused
returns-in-Err-clause-refused g c =
    rw c.in-StoreAndKey.is
    (key_cause (g.H.Shelf.state c.args.shelf.now) (g.H.Shelf.state c.take_store.new.shelf) c.args.dir.now c.in_ok-store.store c.in-Err.why c.in_ok-store.ensures.takes c.in-Err.ensures.refused)
