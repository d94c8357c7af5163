use Rattle.std.proofs.Common.{◌≡◌, IsTrue, refl, sym, subst}
use Rattle.bec_disk.specs.declared.part.Part.TheVariants.{Key, Used}
use Rattle.bec_disk.specs.Disk.{DiskState}
use Rattle.bec_disk.specs.Gated.{gated_of}
use Rattle.bec_disk.specs.declared.gated.Gated.TheVariants.{Absent}
use Rattle.bec_disk.specs.Slot.{slot}
use Rattle.lms_tree.specs.LmsKind.{leaf_count}
use Rattle.key_index.specs.Creating.{drawn_key}
use Rattle.key_index.specs.KeyState.{parts_of}
use Rattle.key_index.specs.Payload.{payload_of}
use Rattle.key_index.specs.Used.{none_used}
use Rattle.key_directory.specs.Parts.{HandsOutAny}
use Rattle.key_directory.proofs.Making.{first_still_out, lets_both_new_go, lets_first_go, lets_second_go, makes_key}
use Rattle.key_directory.proofs.making_key.new_key.Goals as goal

pub returns-in_default-clause-lets_go : goal.returns-in_default-clause-lets_go
returns-in_default-clause-lets_go g c =
    lets_first_go Key Used (payload_of (drawn_key c.args.types.lms c.args.types.ots (g.R.Rng.stream c.args.random.now))) (none_used (leaf_count c.args.types.lms))
    (g.H.Shelf.state c.args.shelf.now) (g.H.Shelf.state c.find_or_make.new.shelf) c.args.dir.now refl c.in_default.ensures.may_make

pub returns-in-Err-clause-lets_go : goal.returns-in-Err-clause-lets_go
returns-in-Err-clause-lets_go g c =
    lets_second_go Key Used (payload_of (drawn_key c.args.types.lms c.args.types.ots (g.R.Rng.stream c.args.random.now))) (none_used (leaf_count c.args.types.lms))
    (g.H.Shelf.state c.args.shelf.now) (g.H.Shelf.state c.find_or_make.new.shelf) (g.H.Shelf.state c.used_beside.new.shelf) (g.H.Shelf.state c.put_back.new.self)
    c.args.dir.now (g.H.D.Disk.state c.in-Ok.key) (g.H.D.Disk.state c.used_beside.new.key) refl c.in-Ok.ensures.hands c.in-Err.ensures.may_make c.in-Err.ensures.there c.in-Err.ensures.same c.put_back.ensures.tells c.put_back.ensures.puts

pub put_back-requires-in-Err-create-2 : goal.put_back-requires-in-Err-create-2
put_back-requires-in-Err-create-2 g c =
    let before = g.H.Shelf.state c.args.shelf.now in
    let mid = g.H.Shelf.state c.find_or_make.new.shelf in
    first_still_out Key Used before mid (g.H.Shelf.state c.used_beside.new.shelf) (g.H.Shelf.state c.put_back-in-Err-create.new.self) c.args.dir.now (g.H.D.Disk.state c.used_beside.new.key) (g.H.D.Disk.state c.in-Err-create.refused.key)
    (g.H.D.Disk.state c.in-Ok-used_beside.used) (g.H.D.Disk.state c.in-Err-create.refused.used) refl
    (subst (λ (d : DiskState). HandsOutAny before (slot c.args.dir.now Key) d mid) (sym c.in-Ok-used_beside.ensures.same) c.in-Ok.ensures.hands)
    c.in-Ok-used_beside.ensures.hands c.in-Err-create.ensures.creates.creating.any_moment.disk.slot c.in-Err-create.ensures.creates.creating.used_disk.slot
    c.put_back-in-Err-create.ensures.tells c.put_back-in-Err-create.ensures.puts

pub returns-in-Ok-create-clause-makes : goal.returns-in-Ok-create-clause-makes
returns-in-Ok-create-clause-makes g c =
    let before = g.H.Shelf.state c.args.shelf.now in
    let mid = g.H.Shelf.state c.find_or_make.new.shelf in
    makes_key (drawn_key c.args.types.lms c.args.types.ots (g.R.Rng.stream c.args.random.now)) before mid (g.H.Shelf.state c.used_beside.new.shelf) c.args.dir.now
    (parts_of g.H.D.Disk.state g.H.D.Counted.faults c.used_beside.new.key c.in-Ok-used_beside.used) c.in-Ok-create.store
    (subst (λ (d : DiskState). HandsOutAny before (slot c.args.dir.now Key) d mid) (sym c.in-Ok-used_beside.ensures.same) c.in-Ok.ensures.hands)
    c.in-Ok-used_beside.ensures.hands c.in-Ok-create.ensures.creates

pub returns-in-Err-create-clause-lets_go : goal.returns-in-Err-create-clause-lets_go
returns-in-Err-create-clause-lets_go g c =
    let before = g.H.Shelf.state c.args.shelf.now in
    let mid = g.H.Shelf.state c.find_or_make.new.shelf in
    lets_both_new_go Key Used (payload_of (drawn_key c.args.types.lms c.args.types.ots (g.R.Rng.stream c.args.random.now))) (none_used (leaf_count c.args.types.lms))
    before mid (g.H.Shelf.state c.used_beside.new.shelf) (g.H.Shelf.state c.put_back-in-Err-create.new.self) (g.H.Shelf.state c.put_back-in-Err-create-2.new.self)
    c.args.dir.now (g.H.D.Disk.state c.used_beside.new.key) (g.H.D.Disk.state c.in-Err-create.refused.key) (g.H.D.Disk.state c.in-Ok-used_beside.used) (g.H.D.Disk.state c.in-Err-create.refused.used) refl refl
    (subst (λ (d : DiskState). HandsOutAny before (slot c.args.dir.now Key) d mid) (sym c.in-Ok-used_beside.ensures.same) c.in-Ok.ensures.hands)
    c.in-Ok-used_beside.ensures.hands
    (subst (λ (d : DiskState). IsTrue d.tells → gated_of d.seen ≡ Absent) (sym c.in-Ok-used_beside.ensures.same) c.in-Ok-used_beside.ensures.absent) c.in-Err-create.ensures.creates.creating.any_moment c.in-Err-create.ensures.creates.creating.used_disk.slot c.in-Err-create.ensures.creates.creating.order
    c.put_back-in-Err-create.ensures.tells c.put_back-in-Err-create-2.ensures.tells c.put_back-in-Err-create.ensures.puts c.put_back-in-Err-create-2.ensures.puts
