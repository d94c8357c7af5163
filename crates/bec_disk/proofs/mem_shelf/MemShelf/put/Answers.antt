use Rattle.std.proofs.Common.{List, Some, ap, ◌∙◌}
use Rattle.bec_disk.specs.Slot.{slot}
use Rattle.bec_disk.specs.Shelved.{MemShelfState, part_of, entry_at}
use Rattle.bec_disk.specs.declared.shelved.Shelved.{Shelved}
use Rattle.bec_disk.proofs.Shelves.{searched, same_slot-self, added_others, others_kept, put_added, put_there}
use Rattle.bec_disk.proofs.mem_shelf.MemShelf.put.Goals as goal

pub returns-clause-stands : goal.returns-clause-stands
returns-clause-stands c =
    put_there c.self.inside.entries.items (slot c.args.dir.now c.args.part) c.in-Some.index c.index_mut.result.now c.args.disk c.number_anew.new.self (searched _ _ _ c.args.part _ _ c.in-Some.ensures c.as_bytes.ensures.value c.deref.ensures.value) c.index_mut.ensures.value c.number_anew.ensures

pub returns-clause-others : goal.returns-clause-others
returns-clause-others c other away =
    let new : Shelved = record { place = c.index_mut.result.now.place; disk = Some c.number_anew.new.self } in
    ap part_of (others_kept c.self.inside.entries.items (slot c.args.dir.now c.args.part) c.in-Some.index new c.index_mut.result.now (searched _ _ _ c.args.part _ _ c.in-Some.ensures c.as_bytes.ensures.value c.deref.ensures.value) (ap (λ (e : Shelved). e.place) c.index_mut.ensures.value) other away
    ∙ ap (λ (l : List Shelved). entry_at l other) (ap (λ (s : MemShelfState). s.entries) c.self.view_is))

pub returns-in_default-clause-stands : goal.returns-in_default-clause-stands
returns-in_default-clause-stands c =
    put_added c.self.inside.entries.items c.append.new.entries.items (slot c.args.dir.now c.args.part) c.args.disk c.number_anew.new.self (searched _ _ _ c.args.part _ _ c.in_default.ensures c.as_bytes.ensures.value c.deref.ensures.value) c.in_ok-append.ensures.added c.number_anew.ensures

pub returns-in_default-clause-others : goal.returns-in_default-clause-others
returns-in_default-clause-others c other away =
    let new : Shelved = record { place = (slot c.args.dir.now c.args.part); disk = Some c.number_anew.new.self } in
    ap (λ (l : List Shelved). part_of (entry_at l other)) c.in_ok-append.ensures.added
    ∙ ap part_of (added_others c.self.inside.entries.items (slot c.args.dir.now c.args.part) new (same_slot-self (slot c.args.dir.now c.args.part)) other away ∙ ap (λ (l : List Shelved). entry_at l other) (ap (λ (s : MemShelfState). s.entries) c.self.view_is))
