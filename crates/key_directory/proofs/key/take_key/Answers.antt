use Rattle.std.proofs.Common.{sym, ◌∙◌, subst}
use Rattle.bec_disk.specs.declared.part.Part.TheVariants.{Key}
use Rattle.bec_disk.specs.Disk.{DiskState}
use Rattle.bec_disk.specs.Shelf.{HandsOut}
use Rattle.bec_disk.specs.Slot.{slot}
use Rattle.key_index.specs.KeyState.{parts_of}
use Rattle.key_directory.proofs.Putting.{found}
use Rattle.key_directory.proofs.TakingKeys.{key_still_out, lets_both_go, lets_key_go, takes_key}
use Rattle.key_directory.proofs.key.take_key.Goals as goal

pub returns-in-Err-clause-lets_go : goal.returns-in-Err-clause-lets_go
returns-in-Err-clause-lets_go g c =
    let before = g.H.Shelf.state c.args.shelf.now in
    let mid = g.H.Shelf.state c.find.new.self in
    lets_key_go before mid (g.H.Shelf.state c.take_used.new.shelf) (g.H.Shelf.state c.put_back.new.self) c.args.dir.now (g.H.D.Disk.state c.in-Some.key) (g.H.D.Disk.state c.take_used.new.key)
    (found g.H.D.Disk.state before (slot c.args.dir.now Key) c.in_ok-key.field-0 c.in-Some.key mid c.in-Some.is c.in_ok-key.ensures.finds)
    c.in-Err.ensures.unchanged c.in-Err.ensures.same c.put_back.ensures.tells c.put_back.ensures.puts

pub put_back-requires-in-Err-open_key-2 : goal.put_back-requires-in-Err-open_key-2
put_back-requires-in-Err-open_key-2 g c =
    let before = g.H.Shelf.state c.args.shelf.now in
    let mid = g.H.Shelf.state c.find.new.self in
    key_still_out before mid (g.H.Shelf.state c.take_used.new.shelf) (g.H.Shelf.state c.put_back-in-Err-open_key.new.self) c.args.dir.now (g.H.D.Disk.state c.in-Some.key) (g.H.D.Disk.state c.in-Ok.used)
    (g.H.D.Disk.state c.in-Err-open_key.fault.key) (g.H.D.Disk.state c.in-Err-open_key.fault.used)
    (found g.H.D.Disk.state before (slot c.args.dir.now Key) c.in_ok-key.field-0 c.in-Some.key mid c.in-Some.is c.in_ok-key.ensures.finds)
    c.in-Ok.ensures.finds (c.in-Err-open_key.ensures.same.key_same ∙ c.in-Ok.ensures.same) c.in-Err-open_key.ensures.same.used_same
    c.put_back-in-Err-open_key.ensures.tells c.put_back-in-Err-open_key.ensures.puts

pub returns-in-Ok-open_key-clause-takes : goal.returns-in-Ok-open_key-clause-takes
returns-in-Ok-open_key-clause-takes g c =
    let before = g.H.Shelf.state c.args.shelf.now in
    let mid = g.H.Shelf.state c.find.new.self in
    takes_key before mid (g.H.Shelf.state c.take_used.new.shelf) c.args.dir.now (parts_of g.H.D.Disk.state g.H.D.Counted.faults c.take_used.new.key c.in-Ok.used) c.in-Ok-open_key.store
    (subst (λ (d : DiskState). HandsOut before (slot c.args.dir.now Key) d mid) (sym c.in-Ok.ensures.same)
    (found g.H.D.Disk.state before (slot c.args.dir.now Key) c.in_ok-key.field-0 c.in-Some.key mid c.in-Some.is c.in_ok-key.ensures.finds))
    c.in-Ok.ensures.finds c.in-Ok-open_key.ensures

pub returns-in-Err-open_key-clause-lets_go : goal.returns-in-Err-open_key-clause-lets_go
returns-in-Err-open_key-clause-lets_go g c =
    let before = g.H.Shelf.state c.args.shelf.now in
    let mid = g.H.Shelf.state c.find.new.self in
    lets_both_go before mid (g.H.Shelf.state c.take_used.new.shelf) (g.H.Shelf.state c.put_back-in-Err-open_key.new.self) (g.H.Shelf.state c.put_back-in-Err-open_key-2.new.self) c.args.dir.now
    (g.H.D.Disk.state c.in-Some.key) (g.H.D.Disk.state c.in-Ok.used) (parts_of g.H.D.Disk.state g.H.D.Counted.faults c.in-Err-open_key.fault.key c.in-Err-open_key.fault.used)
    (found g.H.D.Disk.state before (slot c.args.dir.now Key) c.in_ok-key.field-0 c.in-Some.key mid c.in-Some.is c.in_ok-key.ensures.finds)
    c.in-Ok.ensures.finds (c.in-Err-open_key.ensures.same.key_same ∙ c.in-Ok.ensures.same) c.in-Err-open_key.ensures.same.used_same
    c.put_back-in-Err-open_key.ensures.tells c.put_back-in-Err-open_key-2.ensures.tells c.put_back-in-Err-open_key.ensures.puts c.put_back-in-Err-open_key-2.ensures.puts
