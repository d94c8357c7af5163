use Rattle.std.proofs.Common.{◌≢◌, Ok, set, refl, sym, ap, subst, ◌∙◌}
use Rattle.bec_disk.specs.Replay.{MemDiskState, state_of}
use Rattle.bec_disk.specs.Shelf.{out, Finds}
use Rattle.bec_disk.specs.Shelved.{MemShelfState, part_of, shelf_of, entry_at}
use Rattle.bec_disk.specs.Slot.{slot}
use Rattle.bec_disk.proofs.Shelves.{missing, searched, finds_disk}
use Rattle.bec_disk.proofs.mem_shelf.MemShelfShelf.find.Goals as goal

pub returns-in_default-clause-finds : goal.returns-in_default-clause-finds
returns-in_default-clause-finds c = (
  λ tells. ap part_of (missing c.args.self.now.entries (slot c.args.dir.now c.args.part) (searched _ _ _ c.args.part _ _ c.in_default.ensures c.as_bytes.ensures.value (c.deref.ensures.value ∙ (ap (λ (s : MemShelfState). s.entries) c.self.view_is)))),
  refl,
)

pub returns-clause-finds : goal.returns-clause-finds
returns-clause-finds c =
    let was : MemShelfState = record { entries = c.self.inside.entries.items; faults = c.self.inside.faults } in
    let new : MemShelfState = record { entries = set c.self.inside.entries.items c.in-Some.index c.hand_out.new.entry; faults = c.self.inside.faults } in
    let not_out = subst (λ (s : MemShelfState). part_of (entry_at s.entries (slot c.args.dir.now c.args.part)) ≢ out) (sym c.self.view_is) (c.requires refl) in
    subst (λ (s : MemShelfState). Finds {D = MemDiskState} state_of (shelf_of s) (slot c.args.dir.now c.args.part) (Ok c.in-Ok.found) (shelf_of new)) c.self.view_is
    (finds_disk was c.self.inside.faults (slot c.args.dir.now c.args.part) c.in-Some.index c.index_mut.result.now c.hand_out.new.entry c.in-Ok.found
    (searched _ _ _ c.args.part _ _ c.in-Some.ensures c.as_bytes.ensures.value c.deref.ensures.value) c.index_mut.ensures.value c.in-Ok.ensures.taken not_out)
