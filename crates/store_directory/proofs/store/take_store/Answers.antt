use Rattle.bec_disk.specs.declared.part.Part.TheVariants.{Schema}
use Rattle.bec_disk.specs.Slot.{slot}
use Rattle.key_directory.proofs.Putting.{found}
use Rattle.store_directory.proofs.Putting.{lets_store_go}
use Rattle.store_directory.proofs.store.take_store.Goals as goal

pub returns-in-Err-clause-lets_go : goal.returns-in-Err-clause-lets_go
returns-in-Err-clause-lets_go g c =
    let before = g.H.Shelf.state c.args.shelf.now in
    let mid = g.H.Shelf.state c.find.new.self in
    lets_store_go g.L.Relation.answer before mid (g.H.Shelf.state c.take_updates.new.shelf) (g.H.Shelf.state c.put_back.new.self) c.args.dir.now (g.H.D.Disk.state c.in-Some.schema) (g.H.D.Disk.state c.take_updates.new.schema)
    (found g.H.D.Disk.state before (slot c.args.dir.now Schema) c.in_ok-schema.field-0 c.in-Some.schema mid c.in-Some.is c.in_ok-schema.ensures.finds)
    c.in-Err.ensures.lets_go c.in-Err.ensures.same c.put_back.ensures.tells c.put_back.ensures.puts
