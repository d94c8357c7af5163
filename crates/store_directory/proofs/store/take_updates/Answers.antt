use Rattle.std.proofs.Common.{subst}
use Rattle.bec_disk.specs.declared.part.Part.TheVariants.{Updates}
use Rattle.bec_disk.specs.Disk.{DiskState}
use Rattle.bec_disk.specs.Slot.{slot}
use Rattle.replica.specs.Opening.{KeepsStore}
use Rattle.key_directory.proofs.Putting.{found}
use Rattle.store_directory.proofs.Putting.{lets_updates_go}
use Rattle.store_directory.proofs.store.take_updates.Goals as goal

pub returns-in-Err-clause-lets_go : goal.returns-in-Err-clause-lets_go
returns-in-Err-clause-lets_go g c =
    let before = g.H.Shelf.state c.args.shelf.now in
    let mid = g.H.Shelf.state c.find.new.self in
    let updates = g.H.D.Disk.state c.in-Some.updates in
    let disk = g.H.D.Disk.state c.in-Err.fault.updates in
    lets_updates_go g.L.Relation.answer before mid (g.H.Shelf.state c.put_back.new.self) c.args.dir.now (g.H.D.Disk.state c.args.schema.now) updates disk
    (found g.H.D.Disk.state before (slot c.args.dir.now Updates) c.in_ok-updates.field-0 c.in-Some.updates mid c.in-Some.is c.in_ok-updates.ensures.finds)
    (subst (λ (s : DiskState). KeepsStore g.L.Relation.answer s updates disk) c.read_gated.ensures.same c.in-Err.ensures.any_moment_err)
    c.put_back.ensures.tells c.put_back.ensures.puts
