-- What a run that signs has used of the part Used.
use Rattle.std.proofs.Common.{◌≡◌, ℕ, ◌+◌, List, sym, ◌∙◌, ap, refl, subst, IsTrue, Some}
use Rattle.std.specs.Prelude.{slice_set}
use Rattle.bec_disk.specs.declared.part.Part.TheVariants.{Used}
use Rattle.bec_disk.specs.Disk.{DiskState, IsImage, LeavesOnly, handed_out}
use Rattle.bec_disk.specs.Images.{IsTorn, IsTornFrom}
use Rattle.bec_disk.specs.Shelf.{ShelfState}
use Rattle.bec_disk.specs.Slot.{slot}
use Rattle.bec_disk.proofs.Images.{torn_settled}
use Rattle.bec_disk.proofs.Moments.{leaves_now, weakened}
use Rattle.key_index.specs.KeyState.{KeyState}
use Rattle.key_index.specs.Reserving.{IsReserved, Tries}
use Rattle.key_index.specs.Used.{least_unused, used_in}
use Rattle.key_directory.specs.Keys.{PutsKey, TakesKey}
use Rattle.key_directory.specs.Parts.{IsUntouched, part_in}
use Rattle.key_directory.proofs.Handing.{handed_since, put_untouched}
use Rattle.key_directory.proofs.Putting.{told}
use Rattle.node_commands.specs.Signing.{SignsAtLeastIn, TriesLeastIn}

-- Where no index was tried, it was at most read.
pub untouched_used : (before opened closing after : ShelfState) (dir : List ℕ) (taken now : KeyState) → IsTrue before.tells → IsTrue closing.tells → TakesKey before dir taken opened → now ≡ taken
    → PutsKey closing dir now.parts after → IsUntouched (part_in before dir Used) (part_in after dir Used)
untouched_used before opened closing after dir taken now tells tells' takes same puts =
    let u = takes.used_part tells in
    put_untouched (slot dir Used) u.0 now.parts.used (part_in before dir Used) (part_in after dir Used) u.1 (ap (λ (k : KeyState). k.parts.used) same ∙ u.2) (puts.used_back tells')

-- Where the least index was tried, it alone was.
pub tries_least : (before opened closing after : ShelfState) (dir : List ℕ) (taken now : KeyState) → IsTrue before.tells → IsTrue closing.tells → TakesKey before dir taken opened
    → (index : ℕ) → least_unused taken.taken ≡ Some index → Tries taken index now → IsImage now.parts.used.now now.parts.used.seen → PutsKey closing dir now.parts after
    → TriesLeastIn (part_in before dir Used) (part_in after dir Used)
tries_least before opened closing after dir taken now tells tells' takes index least tries image puts =
    let place = slot dir Used in
    let u = takes.used_part tells in
    let part = u.0 in
    let taken_is : taken.taken ≡ used_in part.seen = takes.taken tells ∙ ap (λ (d : DiskState). used_in d.seen) u.2 in
    let only : LeavesOnly (handed_out place part) now.parts.used (IsTornFrom (handed_out place part).now index (index + 1)) =
    subst (λ (d : DiskState). LeavesOnly d now.parts.used (IsTornFrom d.now index (index + 1))) u.2 tries.only in
    let torn : LeavesOnly (handed_out place part) now.parts.used (IsTorn index (index + 1) part.seen) =
    weakened (handed_out place part) now.parts.used (IsTornFrom (handed_out place part).now index (index + 1)) (IsTorn index (index + 1) part.seen) only
    (λ told image from. torn_settled (handed_out place part) index (index + 1) image refl from) in
    record {
      index = index;
      before = part;
      after = now.parts.used;
      stood = u.1;
      in_place = puts.used_back tells';
      least = ap least_unused (sym taken_is) ∙ least;
      any_moment = handed_since place part now.parts.used (IsTorn index (index + 1) part.seen) torn;
      reads = leaves_now (handed_out place part) now.parts.used (IsTorn index (index + 1) part.seen) torn refl now.parts.used.seen image;
    }

-- Where a message was signed at it, it is on the disk as used.
pub signs_at_least : (before opened closing after : ShelfState) (dir : List ℕ) (taken now : KeyState) → IsTrue before.tells → IsTrue closing.tells → TakesKey before dir taken opened
    → (index : ℕ) → least_unused taken.taken ≡ Some index → Tries taken index now → (IsTrue taken.parts.used.tells → IsReserved taken.parts.used index now.parts.used)
    → IsImage now.parts.used.now now.parts.used.seen → PutsKey closing dir now.parts after → SignsAtLeastIn (part_in before dir Used) (part_in after dir Used)
unfolding tries_least
signs_at_least before opened closing after dir taken now tells tells' takes index least tries reserved image puts =
    let u = takes.used_part tells in
    let is = reserved (told before.tells taken.parts.used.tells takes.used_tells tells) in
    record {
      tries = tries_least before opened closing after dir taken now tells tells' takes index least tries image puts;
      reads = is.written ∙ ap (λ (d : DiskState). slice_set d.seen index 1) u.2;
      settled = is.settled;
    }
