use Rattle.bec_disk.specs.Shelved.{shelf_of}
use Rattle.key_directory.specs.Parts.{IsHome}
use Rattle.tests_of_stores.proofs.runs.begins.Given as goal

abbrev pub invariant-runs : goal.invariant-runs
invariant-runs l = IsHome (shelf_of l.shelf)
