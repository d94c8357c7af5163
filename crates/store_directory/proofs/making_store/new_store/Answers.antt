use Rattle.std.proofs.Common.{◌≡◌, IsTrue, ◌++◌, [], refl, sym, subst}
use Rattle.bec_disk.specs.declared.part.Part.TheVariants.{Schema, Updates}
use Rattle.bec_disk.specs.Disk.{DiskState}
use Rattle.bec_disk.specs.Gated.{gated_of}
use Rattle.bec_disk.specs.declared.gated.Gated.TheVariants.{Absent}
use Rattle.bec_disk.specs.Slot.{slot}
use Rattle.key_directory.specs.Parts.{HandsOutAny, part_in}
use Rattle.key_directory.proofs.Making.{first_still_out, lets_both_new_go, lets_first_go, lets_second_go}
use Rattle.store_directory.proofs.Making.{cause_before, create_cause, makes_store, order_of}
use Rattle.key_directory.proofs.Putting.{told}
use Rattle.store_directory.proofs.making_store.new_store.Goals as goal

pub returns-in_default-clause-lets_go : goal.returns-in_default-clause-lets_go
returns-in_default-clause-lets_go g c =
    lets_first_go Schema Updates (c.args.node ++ c.args.text.now) [] (g.H.Shelf.state c.args.shelf.now) (g.H.Shelf.state c.find_or_make.new.shelf) c.args.dir.now refl c.in_default.ensures.may_make

pub returns-in-Err-clause-lets_go : goal.returns-in-Err-clause-lets_go
returns-in-Err-clause-lets_go g c =
    lets_second_go Schema Updates (c.args.node ++ c.args.text.now) [] (g.H.Shelf.state c.args.shelf.now) (g.H.Shelf.state c.find_or_make.new.shelf) (g.H.Shelf.state c.updates_beside.new.shelf) (g.H.Shelf.state c.put_back.new.self)
    c.args.dir.now (g.H.D.Disk.state c.in-Ok.schema) (g.H.D.Disk.state c.updates_beside.new.schema) refl c.in-Ok.ensures.hands c.in-Err.ensures.may_make c.in-Err.ensures.there c.in-Err.ensures.same c.put_back.ensures.tells c.put_back.ensures.puts

pub returns-in-Err-clause-refused : goal.returns-in-Err-clause-refused
returns-in-Err-clause-refused g c tells =
    let before = g.H.Shelf.state c.args.shelf.now in
    let schema = g.H.D.Disk.state c.in-Ok.schema in
    cause_before g.L.Relation.answer (slot c.args.dir.now Schema) (part_in before c.args.dir.now Schema) schema c.args.text.now c.in-Err.why (c.in-Ok.ensures.hands.part tells)
    (c.in-Err.ensures.refused (told before.tells schema.tells c.in-Ok.ensures.hands.disk_tells tells) g.L.Relation.answer c.args.text.now)

pub put_back-requires-in-Err-create-2 : goal.put_back-requires-in-Err-create-2
put_back-requires-in-Err-create-2 g c =
    let before = g.H.Shelf.state c.args.shelf.now in
    let mid = g.H.Shelf.state c.find_or_make.new.shelf in
    let schema = g.H.D.Disk.state c.updates_beside.new.schema in
    first_still_out Schema Updates before mid (g.H.Shelf.state c.updates_beside.new.shelf) (g.H.Shelf.state c.put_back-in-Err-create.new.self) c.args.dir.now schema (g.H.D.Disk.state c.create.new.schema)
    (g.H.D.Disk.state c.in-Ok-updates_beside.updates) (g.H.D.Disk.state c.in-Err-create.fault.updates) refl
    (subst (λ (d : DiskState). HandsOutAny before (slot c.args.dir.now Schema) d mid) (sym c.in-Ok-updates_beside.ensures.same) c.in-Ok.ensures.hands)
    c.in-Ok-updates_beside.ensures.hands c.in-Err-create.ensures.creating_err.schema_moments.disk.slot c.in-Err-create.ensures.creating_err.updates_disk.slot
    c.put_back-in-Err-create.ensures.tells c.put_back-in-Err-create.ensures.puts

pub returns-in-Ok-create-clause-makes : goal.returns-in-Ok-create-clause-makes
returns-in-Ok-create-clause-makes g c =
    let before = g.H.Shelf.state c.args.shelf.now in
    let mid = g.H.Shelf.state c.find_or_make.new.shelf in
    makes_store g.L.Relation.answer before mid (g.H.Shelf.state c.updates_beside.new.shelf) c.args.dir.now c.args.node c.args.text.now (g.H.D.Disk.state c.updates_beside.new.schema) (g.H.D.Disk.state c.in-Ok-updates_beside.updates)
    (record { schema = g.H.D.Disk.state c.create.new.schema; schema_faults = g.H.D.Counted.faults c.create.new.schema; replica = c.in-Ok-create.replica })
    (subst (λ (d : DiskState). HandsOutAny before (slot c.args.dir.now Schema) d mid) (sym c.in-Ok-updates_beside.ensures.same) c.in-Ok.ensures.hands)
    c.in-Ok-updates_beside.ensures.hands c.in-Ok-create.ensures.created c.in-Ok-create.ensures.creating

pub returns-in-Err-create-clause-lets_go : goal.returns-in-Err-create-clause-lets_go
returns-in-Err-create-clause-lets_go g c =
    let before = g.H.Shelf.state c.args.shelf.now in
    let mid = g.H.Shelf.state c.find_or_make.new.shelf in
    let schema = g.H.D.Disk.state c.updates_beside.new.schema in
    let schema_new = g.H.D.Disk.state c.create.new.schema in
    let updates = g.H.D.Disk.state c.in-Ok-updates_beside.updates in
    let updates_new = g.H.D.Disk.state c.in-Err-create.fault.updates in
    lets_both_new_go Schema Updates (c.args.node ++ c.args.text.now) [] before mid (g.H.Shelf.state c.updates_beside.new.shelf) (g.H.Shelf.state c.put_back-in-Err-create.new.self) (g.H.Shelf.state c.put_back-in-Err-create-2.new.self)
    c.args.dir.now schema schema_new updates updates_new refl refl
    (subst (λ (d : DiskState). HandsOutAny before (slot c.args.dir.now Schema) d mid) (sym c.in-Ok-updates_beside.ensures.same) c.in-Ok.ensures.hands)
    c.in-Ok-updates_beside.ensures.hands
    (subst (λ (d : DiskState). IsTrue d.tells → gated_of d.seen ≡ Absent) (sym c.in-Ok-updates_beside.ensures.same) c.in-Ok-updates_beside.ensures.absent) c.in-Err-create.ensures.creating_err.schema_moments c.in-Err-create.ensures.creating_err.updates_disk.slot
    (order_of schema schema_new updates updates_new c.in-Err-create.ensures.creating_err.order)
    c.put_back-in-Err-create.ensures.tells c.put_back-in-Err-create-2.ensures.tells c.put_back-in-Err-create.ensures.puts c.put_back-in-Err-create-2.ensures.puts

pub returns-in-Err-create-clause-refused : goal.returns-in-Err-create-clause-refused
returns-in-Err-create-clause-refused g c tells =
    let before = g.H.Shelf.state c.args.shelf.now in
    let mid = g.H.Shelf.state c.find_or_make.new.shelf in
    let schema = g.H.D.Disk.state c.updates_beside.new.schema in
    let hands : HandsOutAny before (slot c.args.dir.now Schema) schema mid =
    subst (λ (d : DiskState). HandsOutAny before (slot c.args.dir.now Schema) d mid) (sym c.in-Ok-updates_beside.ensures.same) c.in-Ok.ensures.hands in
    cause_before g.L.Relation.answer (slot c.args.dir.now Schema) (part_in before c.args.dir.now Schema) schema c.args.text.now c.in-Err-create.fault.why (hands.part tells)
    (create_cause g.L.Relation.answer schema c.args.text.now c.in-Err-create.fault.why (told before.tells schema.tells hands.disk_tells tells) c.in-Err-create.ensures.refused)
