-- What a run that signs leaves of the parts of a key.
use Rattle.std.proofs.Common.{◌≡◌, ◌⊎◌, inl, inr, ℕ, ◌+◌, List, refl, sym, ◌∙◌, ap, subst, IsTrue}
use Rattle.bec_disk.specs.declared.part.Part.TheVariants.{Key, Used}
use Rattle.bec_disk.specs.Disk.{DiskState, EveryImage, IsImage, LeavesOnly, handed_out}
use Rattle.bec_disk.specs.Images.{IsTorn, IsTornFrom}
use Rattle.bec_disk.specs.Shelf.{PartState, ShelfState, stands}
use Rattle.bec_disk.specs.Slot.{Slot, slot}
use Rattle.bec_disk.proofs.Images.{settled_image, torn_settled}
use Rattle.bec_disk.proofs.Moments.{leaves_now}
use Rattle.key_index.specs.KeyState.{KeyState}
use Rattle.key_index.specs.Reserving.{Tries}
use Rattle.key_index.specs.Used.{IsUsed}
use Rattle.key_directory.specs.Keys.{KeepsUsed, PutsKey, TakesKey, WorksWith}
use Rattle.key_directory.specs.Parts.{IsUntouched, part_in}
use Rattle.key_directory.proofs.Handing.{handed_since, put_untouched}

-- what the part Used reads as after a run that tried at most one index
used_reads : (place : Slot) (part : DiskState) (taken now : KeyState) → taken.parts.used ≡ handed_out place part → IsImage now.parts.used.now now.parts.used.seen → WorksWith taken now
    → IsUntouched (stands part) (stands now.parts.used) ⊎ ((index : ℕ) × IsTorn index (index + 1) part.seen now.parts.used.seen)
used_reads place part taken now is image works = by works.tried
  where
    by : (now ≡ taken) ⊎ ((index : ℕ) × Tries taken index now) → IsUntouched (stands part) (stands now.parts.used) ⊎ ((index : ℕ) × IsTorn index (index + 1) part.seen now.parts.used.seen)
    by (inl same) = inl (put_untouched place part now.parts.used (stands part) (stands now.parts.used) refl (ap (λ (k : KeyState). k.parts.used) same ∙ is) refl)
    by (inr tries) =
        let index = tries.0 in
        let only : LeavesOnly (handed_out place part) now.parts.used (IsTornFrom (handed_out place part).now index (index + 1)) =
        subst (λ (d : DiskState). LeavesOnly d now.parts.used (IsTornFrom d.now index (index + 1))) is tries.1.only in
        inr (
          index,
          torn_settled (handed_out place part) index (index + 1) now.parts.used.seen refl
              (leaves_now (handed_out place part) now.parts.used (IsTornFrom (handed_out place part).now index (index + 1)) only refl now.parts.used.seen image),
        )

-- What a run that took a key and put it back leaves of the part Used.
pub keeps_used : (before opened closing after : ShelfState) (dir : List ℕ) (taken now : KeyState) → IsTrue before.tells → IsTrue closing.tells → TakesKey before dir taken opened → WorksWith taken now
    → IsImage now.parts.used.now now.parts.used.seen → PutsKey closing dir now.parts after → KeepsUsed (part_in before dir Used) (part_in after dir Used)
keeps_used before opened closing after dir taken now tells tells' takes works image puts =
    let u = takes.used_part tells in
    subst (λ (p : PartState). KeepsUsed p (part_in after dir Used)) (sym u.1)
    (subst (λ (p : PartState). KeepsUsed (stands u.0) p) (sym (puts.used_back tells'))
    (record {
      reads = used_reads (slot dir Used) u.0 taken now u.2 image works;
      used = λ index used. (
        handed_since (slot dir Used) u.0 now.parts.used (IsUsed index) (leaves u.0 u.2 index used),
        leaves_now (handed_out (slot dir Used) u.0) now.parts.used (IsUsed index) (leaves u.0 u.2 index used) refl now.parts.used.seen image,
      );
    }))
  where
    leaves : (part : DiskState) → taken.parts.used ≡ handed_out (slot dir Used) part → (index : ℕ) → IsUsed index part.seen → LeavesOnly (handed_out (slot dir Used) part) now.parts.used (IsUsed index)
    leaves part is index used =
        subst (λ (d : DiskState). LeavesOnly d now.parts.used (IsUsed index)) is
        (works.used index (λ _. subst (λ (d : DiskState). EveryImage d.now (IsUsed index)) (sym is) (settled_image (handed_out (slot dir Used) part) (IsUsed index) refl used)))

-- and of the part Key, to which nothing is done.
pub keeps_key : (before opened closing after : ShelfState) (dir : List ℕ) (taken now : KeyState) → IsTrue before.tells → IsTrue closing.tells → TakesKey before dir taken opened → WorksWith taken now
    → PutsKey closing dir now.parts after → IsUntouched (part_in before dir Key) (part_in after dir Key)
keeps_key before opened closing after dir taken now tells tells' takes works puts =
    let k = takes.key_part tells in
    put_untouched (slot dir Key) k.0 now.parts.key (part_in before dir Key) (part_in after dir Key) k.1 (key_kept works.tried ∙ k.2) (puts.key_back tells')
  where
    key_kept : (now ≡ taken) ⊎ ((index : ℕ) × Tries taken index now) → now.parts.key ≡ taken.parts.key
    key_kept (inl same) = ap (λ (s : KeyState). s.parts.key) same
    key_kept (inr tries) = tries.1.key
