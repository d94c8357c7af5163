-- A part that was put back lasts.
use Rattle.std.proofs.Common.{◌≡◌, refl, sym, subst}
use Rattle.bec_disk.specs.Disk.{DiskState, IsSettled}
use Rattle.bec_disk.specs.Shelf.{PartState, stands}
use Rattle.bec_disk.proofs.Images.{settled_image}
use Rattle.outcomes.specs.Parts.{Lasts}

-- a part that was put back on the disk lasts
pub lasting : (part : PartState) (disk : DiskState) → part ≡ stands disk → IsSettled disk → Lasts part
lasting part disk back settled = subst Lasts (sym back) (settled_image disk (λ image. image ≡ disk.seen) settled refl)
