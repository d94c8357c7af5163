use Rattle.std.proofs.Common.{◌≢◌, refl, sym, ap, subst, ◌∙◌}
use Rattle.bec_disk.specs.Disk.{DiskState}
use Rattle.bec_disk.specs.Replay.{state_of}
use Rattle.bec_disk.specs.Shelf.{ShelfState, out}
use Rattle.bec_disk.specs.Shelved.{shelf_of}
use Rattle.bec_disk.specs.Slot.{slot}
use Rattle.bec_disk.proofs.Homes.{finds_of, home_again}
use Rattle.tests_of_outside.proofs.shelves.found.Goals as goal

pub returns-in-Ok-Some : goal.returns-in-Ok-Some
returns-in-Ok-Some c =
    let place = slot c.args.dir.now c.args.part in
    let old = shelf_of c.args.shelf.now in
    let mid = shelf_of c.find.new.self in
    let finds = rw c.in-Ok-Some.field-0-is at c.in-Ok-Some.ensures.finds in
    record {
      home = home_again old mid (shelf_of c.put_back.new.self) place (state_of c.bytes_of-bytes.new.disk) finds.others
          (c.put_back.ensures.puts place (ap (λ (s : DiskState). s.slot) c.bytes_of-bytes.ensures ∙ finds_of old mid place c.in-Ok-Some.disk refl finds)) refl c.requires.home;
    }

pub returns-in-Ok-None : goal.returns-in-Ok-None
returns-in-Ok-None c =
    let finds = rw c.in-Ok-None.field-0-is at c.in-Ok-None.ensures.finds in
    record { home = λ place. subst (λ (s : ShelfState). s.parts place ≢ out) (sym finds.1) (c.requires.home place) }

pub returns-in-Err : goal.returns-in-Err
returns-in-Err c = record { home = λ place. subst (λ (s : ShelfState). s.parts place ≢ out) (sym c.in-Err.ensures.finds) (c.requires.home place) }
