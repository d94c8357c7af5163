-- What the adapters tell of real files and connections: nothing.
use Rattle.std.specs.Prelude.{ℕ, false, [], None, IsTrue}
use Rattle.std.proofs.lemmas.Bool.{false≢true}
use Rattle.bec_disk.specs.Disk.{DiskState, IsImage, synced_at}
use Rattle.bec_disk.specs.Shelf.{ShelfState, absent}
use Rattle.bec_bytes.specs.Causes.{one_more}
use Rattle.bec_links.specs.Nets.{NetState}

-- A disk that tells nothing.
abbrev pub untold_disk : DiskState
untold_disk = record { tells = false; slot = None; seen = []; now = synced_at []; past = [] }

-- So nothing is owed of what it reads as.
pub untold_reads : IsTrue false → IsImage (synced_at []) []
untold_reads tells = absurd (false≢true tells)

-- A shelf that tells nothing.
abbrev pub untold_shelf : ShelfState
untold_shelf = record { tells = false; parts = λ slot. absent }

-- How many links of a net are out, how many of its calls failed, and how many faults it counted.
pub record NetCounts : Type 0 where
  pub out : ℕ
  pub failed : ℕ
  pub faults : ℕ

-- A net that tells its counts alone.
abbrev pub untold_net : NetCounts → NetState
untold_net counts = record { coming = None; given = None; out = counts.out; failed = counts.failed }

-- After a call that failed.
abbrev pub after_refusal : NetCounts → NetCounts
after_refusal counts = record { out = counts.out; failed = one_more counts.failed; faults = one_more counts.faults }
