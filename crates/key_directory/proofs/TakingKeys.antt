-- Taking the two parts of a key, and putting them back where they open as none.
use Rattle.std.proofs.Common.{◌≡◌, ℕ, List, refl, sym, ◌∙◌, ap, subst, IsTrue, Some, Option}
use Rattle.bec_disk.specs.declared.part.Part.TheVariants.{Key, Used}
use Rattle.bec_disk.specs.Disk.{DiskState}
use Rattle.bec_disk.specs.Shelf.{HandsOut, IsOfOut, PutsBack, ShelfState, stands}
use Rattle.bec_disk.specs.Slot.{same_slot, slot}
use Rattle.key_index.specs.KeyState.{KeyParts, KeyState}
use Rattle.key_index.specs.Opening.{AreOfKey, OpensKey}
use Rattle.key_index.specs.Used.{used_in}
use Rattle.key_directory.specs.Keys.{LetsKeyGo, PutsKey, ReadsAsKey, TakesKey}
use Rattle.key_directory.specs.Parts.{part_in, reading}
use Rattle.key_directory.proofs.Handing.{put_untouched, untouched_by}
use Rattle.key_directory.proofs.Places.{neither}
use Rattle.key_directory.proofs.Putting.{PutsAny, puts_key, reads_handed, slot_of, told}

-- The part Key is put back where no part Used was taken.
pub lets_key_go : (before mid done after : ShelfState) (dir : List ℕ) (key disk : DiskState) → HandsOut before (slot dir Key) key mid → done ≡ mid → disk ≡ key → after.tells ≡ done.tells → PutsAny done disk after → LetsKeyGo before dir after
lets_key_go before mid done after dir key disk hands unchanged same t3 puts = record {
  tells = t3 ∙ ap (λ (s : ShelfState). s.tells) unchanged ∙ hands.tells;
  key_part = λ tells. put_untouched (slot dir Key) (hands.part tells).0 disk (part_in before dir Key) (part_in after dir Key) (hands.part tells).1 (same ∙ (hands.part tells).2)
      ((put tells).part (told mid.tells done.tells (ap (λ (s : ShelfState). s.tells) unchanged) (told before.tells mid.tells hands.tells tells)));
  used_part = λ tells. untouched_by (part_in before dir Used) (part_in after dir Used) ((put tells).others (slot dir Used) refl ∙ ap (λ (s : ShelfState). part_in s dir Used) unchanged ∙ hands.others (slot dir Used) refl);
  others = λ tells other away.
      let two = neither (same_slot (slot dir Key) other) (same_slot (slot dir Used) other) away in
      (put tells).others other two.0 ∙ ap (λ (s : ShelfState). s.parts other) unchanged ∙ hands.others other two.0;
}
  where
    put : IsTrue before.tells → PutsBack done (slot dir Key) disk after
    put tells = puts (slot dir Key) (ap (λ (d : DiskState). d.slot) same ∙ slot_of (slot dir Key) (hands.part tells).0 key (hands.part tells).2)

-- Both parts are put back where they are of no key.
pub lets_both_go : (before mid taken back after : ShelfState) (dir : List ℕ) (key used : DiskState) (parts : KeyParts) → HandsOut before (slot dir Key) key mid → HandsOut mid (slot dir Used) used taken
    → parts.key ≡ key → parts.used ≡ used → back.tells ≡ taken.tells → after.tells ≡ back.tells → PutsAny taken parts.used back → PutsAny back parts.key after → LetsKeyGo before dir after
lets_both_go before mid taken back after dir key used parts h1 h2 same_key same_used t3 t4 p1 p2 = record {
  tells = puts.tells ∙ h2.tells ∙ h1.tells;
  key_part = λ tells. put_untouched (slot dir Key) (h1.part tells).0 parts.key (part_in before dir Key) (part_in after dir Key) (h1.part tells).1 (same_key ∙ (h1.part tells).2) (puts.key_back (told_taken tells));
  used_part = λ tells. put_untouched (slot dir Used) (h2.part (told_mid tells)).0 parts.used (part_in before dir Used) (part_in after dir Used) (sym (h1.others (slot dir Used) refl) ∙ (h2.part (told_mid tells)).1)
      (same_used ∙ (h2.part (told_mid tells)).2) (puts.used_back (told_taken tells));
  others = λ tells other away.
      let two = neither (same_slot (slot dir Key) other) (same_slot (slot dir Used) other) away in
      puts.others (told_taken tells) other away ∙ h2.others other two.1 ∙ h1.others other two.0;
}
  where
    told_mid : IsTrue before.tells → IsTrue mid.tells
    told_mid tells = told before.tells mid.tells h1.tells tells

    told_taken : IsTrue before.tells → IsTrue taken.tells
    told_taken tells = told mid.tells taken.tells h2.tells (told_mid tells)

    puts : PutsKey taken dir parts after
    puts = puts_key taken back after dir parts
        (λ tells. let h = h1.part (told taken.tells before.tells (sym (h2.tells ∙ h1.tells)) tells) in ap (λ (d : DiskState). d.slot) same_key ∙ slot_of (slot dir Key) h.0 key h.2)
        (λ tells. let h = h2.part (told taken.tells mid.tells (sym h2.tells) tells) in ap (λ (d : DiskState). d.slot) same_used ∙ slot_of (slot dir Used) h.0 used h.2)
        t3 t4 p1 p2

-- Behind the part Used, the part Key is still out.
pub key_still_out : (before mid taken back : ShelfState) (dir : List ℕ) (key used key_disk used_disk : DiskState) → HandsOut before (slot dir Key) key mid → HandsOut mid (slot dir Used) used taken
    → key_disk ≡ key → used_disk ≡ used → back.tells ≡ taken.tells → PutsAny taken used_disk back → IsTrue back.tells → IsOfOut back key_disk
key_still_out before mid taken back dir key used key_disk used_disk h1 h2 same_key same_used t3 p1 tells =
    let t2 : IsTrue mid.tells = told back.tells mid.tells (sym (t3 ∙ h2.tells)) tells in
    let t1 : IsTrue before.tells = told mid.tells before.tells (sym h1.tells) t2 in
    let of_used = ap (λ (d : DiskState). d.slot) same_used ∙ slot_of (slot dir Used) (h2.part t2).0 used (h2.part t2).2 in (
      slot dir Key,
      ap (λ (d : DiskState). d.slot) same_key ∙ slot_of (slot dir Key) (h1.part t1).0 key (h1.part t1).2,
      (p1 (slot dir Used) of_used).others (slot dir Key) refl ∙ h2.others (slot dir Key) refl ∙ h1.is_out t1,
    )

-- Both parts were taken, and opened as a key.
pub takes_key : (before mid after : ShelfState) (dir : List ℕ) (parts : KeyParts) (store : KeyState) → HandsOut before (slot dir Key) parts.key mid → HandsOut mid (slot dir Used) parts.used after → OpensKey parts store → TakesKey before dir store after
takes_key before mid after dir parts store h1 h2 opens = record {
  tells = h2.tells ∙ h1.tells;
  key_tells = ap (λ (d : DiskState). d.tells) opens.same.key_same ∙ h1.disk_tells;
  used_tells = ap (λ (d : DiskState). d.tells) opens.same.used_same ∙ h2.disk_tells ∙ h1.tells;
  key_part = λ tells. ((h1.part tells).0, (h1.part tells).1, opens.same.key_same ∙ (h1.part tells).2);
  used_part = λ tells. ((h2.part (told_mid tells)).0, used_there tells, opens.same.used_same ∙ (h2.part (told_mid tells)).2);
  reads = λ tells.
      let of_key : AreOfKey parts.key.seen parts.used.seen store.secret = record { holds = opens.holds (told before.tells parts.key.tells h1.disk_tells tells); size = opens.size (used_told tells) } in
      let as_used : ReadsAsKey (Some parts.key.seen) (reading (part_in before dir Used)) store.secret =
      subst (λ (r : Option (List ℕ)). ReadsAsKey (Some parts.key.seen) r store.secret)
      (sym (reads_handed (slot dir Used) (h2.part (told_mid tells)).0 parts.used (part_in before dir Used) (used_there tells) (h2.part (told_mid tells)).2)) of_key in
      subst (λ (r : Option (List ℕ)). ReadsAsKey r (reading (part_in before dir Used)) store.secret)
      (sym (reads_handed (slot dir Key) (h1.part tells).0 parts.key (part_in before dir Key) (h1.part tells).1 (h1.part tells).2)) as_used;
  taken = λ tells. opens.taken (used_told tells) ∙ ap (λ (d : DiskState). used_in d.seen) (sym opens.same.used_same);
  tried = opens.tried;
  key_out = λ tells. h2.others (slot dir Key) refl ∙ h1.is_out tells;
  used_out = λ tells. h2.is_out (told_mid tells);
  others = λ other away.
      let two = neither (same_slot (slot dir Key) other) (same_slot (slot dir Used) other) away in
      h2.others other two.1 ∙ h1.others other two.0;
}
  where
    told_mid : IsTrue before.tells → IsTrue mid.tells
    told_mid tells = told before.tells mid.tells h1.tells tells

    used_told : IsTrue before.tells → IsTrue parts.used.tells
    used_told tells = told mid.tells parts.used.tells h2.disk_tells (told_mid tells)

    used_there : (tells : IsTrue before.tells) → part_in before dir Used ≡ stands (h2.part (told_mid tells)).0
    used_there tells = sym (h1.others (slot dir Used) refl) ∙ (h2.part (told_mid tells)).1
