-- What is handed out, and what putting it back leaves.
use Rattle.std.proofs.Common.{◌≡◌, ℕ, List, refl, sym, ◌∙◌, ap, subst}
use Rattle.bec_disk.specs.Disk.{DiskState, LeavesOnly, LeavesSince, handed_out, moments}
use Rattle.bec_disk.specs.Shelf.{PartState, absent, out, stands}
use Rattle.bec_disk.specs.Slot.{Slot}
use Rattle.bec_disk.proofs.Images.{image-synced}
use Rattle.bec_disk.proofs.Moments.{no_moment, one_moment, since_then}
use Rattle.key_directory.specs.Parts.{IsUntouched}

-- the moments of a part that was handed out
pub handed_since : (place : Slot) (part new : DiskState) (P : List ℕ → Type 0) → LeavesOnly (handed_out place part) new P → LeavesSince (moments part) (moments new) P
handed_since place part new P leaves =
    since_then (moments part) (moments (handed_out place part)) (moments new) P
    (one_moment (moments part) (moments (handed_out place part)) (handed_out place part).now P refl (leaves.first refl))
    (leaves.run refl)

-- a part that nothing was done to
pub untouched : (part : PartState) → IsUntouched part part
untouched absent = refl
untouched out = refl
untouched (stands part) = (refl, no_moment (moments part) (moments part) (λ image. image ≡ part.seen) refl)

pub untouched_by : (old new : PartState) → new ≡ old → IsUntouched old new
untouched_by old new same = subst (λ (p : PartState). IsUntouched old p) (sym same) (untouched old)

-- a part that was handed out and put back
pub put_untouched : (place : Slot) (part disk : DiskState) (old new : PartState) → old ≡ stands part → disk ≡ handed_out place part → new ≡ stands disk → IsUntouched old new
put_untouched place part disk old new there is back =
    subst (λ (p : PartState). IsUntouched p new) (sym there)
    (subst (λ (p : PartState). IsUntouched (stands part) p) (sym (back ∙ ap stands is))
    (refl, one_moment (moments part) (moments (handed_out place part)) (handed_out place part).now (λ image. image ≡ part.seen) refl (image-synced part.seen)))
