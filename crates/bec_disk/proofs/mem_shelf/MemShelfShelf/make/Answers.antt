use Rattle.std.proofs.Common.{◌≡◌, Ok, refl, sym, subst}
use Rattle.bec_disk.specs.Replay.{MemDiskState, state_of}
use Rattle.bec_disk.specs.Shelf.{absent, Makes}
use Rattle.bec_disk.specs.Shelved.{MemShelfState, part_of, shelf_of, entry_at}
use Rattle.bec_disk.specs.Slot.{slot}
use Rattle.bec_disk.proofs.Shelves.{absent_none, makes_disk}
use Rattle.bec_disk.proofs.mem_shelf.MemShelfShelf.make.Goals as goal

pub returns-clause-makes : goal.returns-clause-makes
returns-clause-makes c =
    let was : MemShelfState = record { entries = c.self.inside.entries.items; faults = c.self.inside.faults } in
    let new : MemShelfState = record { entries = c.add.new.entries.items; faults = c.self.inside.faults } in
    let none = absent_none _ (subst (λ (s : MemShelfState). part_of (entry_at s.entries (slot c.args.dir.now c.args.part)) ≡ absent) (sym c.self.view_is) (c.requires refl)) in
    subst (λ (s : MemShelfState). Makes {D = MemDiskState} state_of (shelf_of s) (slot c.args.dir.now c.args.part) (Ok c.in-Ok.disk) (shelf_of new)) c.self.view_is
    (makes_disk was c.self.inside.faults (slot c.args.dir.now c.args.part) c.add.new.entries.items c.in-Ok.disk none c.in-Ok.ensures.added c.in-Ok.ensures.made)
