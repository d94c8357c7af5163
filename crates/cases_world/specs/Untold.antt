-- What a case's disks, shelves and nets tell of what they have: nothing.
use Rattle.std.specs.Prelude.{ℕ, false, [], None, IsTrue}
use Rattle.std.proofs.lemmas.Bool.{false≢true}
use Rattle.bec_disk.specs.Disk.{DiskState, IsImage, synced_at}
use Rattle.bec_disk.specs.Shelf.{ShelfState, absent}
use Rattle.bec_links.specs.Nets.{NetState}

-- A disk that tells nothing.
abbrev pub untold_disk : DiskState
untold_disk = record { tells = false; slot = None; seen = []; now = synced_at []; past = [] }

-- So nothing is owed of what it reads as.
pub untold_reads : IsTrue false → IsImage (synced_at []) []
untold_reads tells = absurd (false≢true tells)

-- A shelf that tells nothing.
abbrev pub untold_shelf : ShelfState
untold_shelf = record { tells = false; parts = λ slot. absent }

-- A net that tells how many links are out and how many of its calls failed.
abbrev pub untold_net : ℕ → ℕ → NetState
untold_net out failed = record { coming = None; given = None; out = out; failed = failed }
