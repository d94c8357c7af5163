use Rattle.std.proofs.Common.{◌<◌, ℕ, Some, set, refl, sym, ap, subst, ◌∙◌}
use Rattle.std.specs.List.{position}
use Rattle.bec_disk.specs.Replay.{state_of}
use Rattle.bec_disk.specs.Shelf.{PutsBack}
use Rattle.bec_disk.specs.Shelved.{MemShelfState, is_at, shelf_of}
use Rattle.bec_disk.proofs.Shelves.{found_within, out_found, puts_back}
use Rattle.bec_disk.proofs.mem_shelf.MemShelfShelf.put_back.Goals as goal

pub returns-in_default-clause-puts : goal.returns-in_default-clause-puts
returns-in_default-clause-puts c =
    let of = c.requires refl in
    absurd (out_found c.args.self.now.entries of.0
    (ap (position (is_at of.0)) (sym (c.deref.ensures.value ∙ ap (λ (s : MemShelfState). s.entries) c.self.view_is)) ∙ sym (c.in_default.ensures of.0 of.1)) of.2)

pub index_mut-requires : goal.index_mut-requires
index_mut-requires c =
    let of = c.requires refl in
    subst (λ (n : ℕ). c.in-Some.index < n) c.deref.ensures.len (found_within c.deref.result.now of.0 c.in-Some.index (sym (c.in-Some.ensures of.0 of.1)))

pub returns-clause-puts : goal.returns-clause-puts
returns-clause-puts c place is =
    let was : MemShelfState = record { entries = c.self.inside.entries.items; faults = c.self.inside.faults } in
    let new : MemShelfState = record {
      entries = set c.self.inside.entries.items c.in-Some.index (record { place = c.index_mut.result.now.place; disk = Some c.args.disk });
      faults = c.faults_with-self-inside.result;
    } in
    subst (λ (s : MemShelfState). PutsBack (shelf_of s) place (state_of c.args.disk) (shelf_of new)) c.self.view_is
    (puts_back was c.faults_with-self-inside.result place c.in-Some.index c.index_mut.result.now c.args.disk (ap (position (is_at place)) (sym c.deref.ensures.value) ∙ sym (c.in-Some.ensures place is)) c.index_mut.ensures.value)
