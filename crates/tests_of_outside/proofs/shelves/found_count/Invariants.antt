use Rattle.std.proofs.Common.{◌≢◌}
use Rattle.bec_disk.specs.Shelf.{out}
use Rattle.bec_disk.specs.Shelved.{shelf_of}
use Rattle.bec_disk.specs.Slot.{Slot}
use Rattle.tests_of_outside.proofs.shelves.found_count.Given as goal

abbrev pub invariant-loop-made : goal.invariant-loop-made
invariant-loop-made l = (place : Slot) → (shelf_of l.shelf).parts place ≢ out
