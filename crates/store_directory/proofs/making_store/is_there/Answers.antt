use Rattle.bec_disk.specs.declared.part.Part.TheVariants.{Schema}
use Rattle.bec_disk.specs.Slot.{slot}
use Rattle.key_directory.proofs.Making.{read_others, read_untouched}
use Rattle.key_directory.proofs.Putting.{found}
use Rattle.store_directory.proofs.making_store.is_there.Goals as goal

pub returns-in_err-read-clause-untouched : goal.returns-in_err-read-clause-untouched
returns-in_err-read-clause-untouched g c =
    let before = g.H.Shelf.state c.args.shelf.now in
    let mid = g.H.Shelf.state c.find.new.self in
    read_untouched before mid (g.H.Shelf.state c.put_back.new.self) c.args.dir.now Schema (g.H.D.Disk.state c.in-Some.schema) (g.H.D.Disk.state c.read_gated-read.new.disk)
    (found g.H.D.Disk.state before (slot c.args.dir.now Schema) c.in_ok-schema.field-0 c.in-Some.schema mid c.in-Some.is c.in_ok-schema.ensures.finds)
    c.read_gated-read.ensures.same c.put_back.ensures.puts

pub returns-in_err-read-clause-others : goal.returns-in_err-read-clause-others
returns-in_err-read-clause-others g c =
    let before = g.H.Shelf.state c.args.shelf.now in
    let mid = g.H.Shelf.state c.find.new.self in
    read_others before mid (g.H.Shelf.state c.put_back.new.self) c.args.dir.now Schema (g.H.D.Disk.state c.in-Some.schema) (g.H.D.Disk.state c.read_gated-read.new.disk)
    (found g.H.D.Disk.state before (slot c.args.dir.now Schema) c.in_ok-schema.field-0 c.in-Some.schema mid c.in-Some.is c.in_ok-schema.ensures.finds)
    c.read_gated-read.ensures.same c.put_back.ensures.puts

pub returns-clause-untouched : goal.returns-clause-untouched
returns-clause-untouched g c =
    let before = g.H.Shelf.state c.args.shelf.now in
    let mid = g.H.Shelf.state c.find.new.self in
    read_untouched before mid (g.H.Shelf.state c.put_back.new.self) c.args.dir.now Schema (g.H.D.Disk.state c.in-Some.schema) (g.H.D.Disk.state c.read_gated-read.new.disk)
    (found g.H.D.Disk.state before (slot c.args.dir.now Schema) c.in_ok-schema.field-0 c.in-Some.schema mid c.in-Some.is c.in_ok-schema.ensures.finds)
    c.read_gated-read.ensures.same c.put_back.ensures.puts

pub returns-clause-others : goal.returns-clause-others
returns-clause-others g c =
    let before = g.H.Shelf.state c.args.shelf.now in
    let mid = g.H.Shelf.state c.find.new.self in
    read_others before mid (g.H.Shelf.state c.put_back.new.self) c.args.dir.now Schema (g.H.D.Disk.state c.in-Some.schema) (g.H.D.Disk.state c.read_gated-read.new.disk)
    (found g.H.D.Disk.state before (slot c.args.dir.now Schema) c.in_ok-schema.field-0 c.in-Some.schema mid c.in-Some.is c.in_ok-schema.ensures.finds)
    c.read_gated-read.ensures.same c.put_back.ensures.puts
