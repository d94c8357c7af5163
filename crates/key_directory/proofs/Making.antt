-- Making what stands in two parts of a directory.
use Rattle.std.proofs.Common.{◌≡◌, ◌≢◌, ◌⊎◌, inl, inr, ℕ, Bool, true, false, List, [], ◌∷◌, refl, sym, ◌∙◌, ap, subst, IsTrue, Some}
use Rattle.std.specs.Prelude.{◌||◌}
use Rattle.std.proofs.lemmas.Bool.{true≢false}
use Rattle.bec_disk.specs.declared.gated.Gated.TheVariants.{Absent}
use Rattle.bec_disk.specs.declared.part.Part.{Part}
use Rattle.bec_disk.specs.declared.part.Part.TheVariants.{Key, Used}
use Rattle.bec_disk.specs.Disk.{DiskState, IsSameDisk, IsSettled, LeavesOnly, LeavesSince, made_part, moments}
use Rattle.bec_disk.specs.Gated.{IsOldOrNew, gated_of}
use Rattle.bec_disk.specs.Shelf.{HandsOut, IsOfOut, PartState, PutsBack, ShelfState, absent, moments_of, out, stands}
use Rattle.bec_disk.specs.Slot.{Slot, same_slot, slot}
use Rattle.bec_disk.proofs.Images.{settled_image}
use Rattle.bec_disk.proofs.Moments.{no_moment, one_moment, since_then, since_weakened, stays}
use Rattle.lms_tree.specs.SecretKey.{SecretData}
use Rattle.key_index.specs.Creating.{CreatesKey, IsOnDisk}
use Rattle.key_index.specs.KeyState.{KeyParts, KeyState}
use Rattle.key_directory.specs.Parts.{HandsOutAny, IsHanded, IsLeftAlone, LetsNewGo, MayMakeAny, seen_in, IsUntouched, KeepsAllBut, part_in}
use Rattle.key_directory.specs.Keys.{MakesKey}
use Rattle.key_directory.proofs.Handing.{handed_since, put_untouched, untouched_by}
use Rattle.key_directory.proofs.Places.{StaysIn, each_of_two, home_again, neither, stands-not-out, stays_in}
use Rattle.key_directory.proofs.Putting.{PutsAny, slot_of, told}

pub handed_slot : (place : Slot) (old : PartState) (disk : DiskState) → IsHanded place old disk → disk.slot ≡ Some place
handed_slot place absent disk is = ap (λ (d : DiskState). d.slot) is
handed_slot place out disk is = absurd is
handed_slot place (stands part) disk is = ap (λ (d : DiskState). d.slot) is

pub handed_settled : (place : Slot) (old : PartState) (disk : DiskState) → IsHanded place old disk → IsSettled disk
handed_settled place absent disk is = subst (λ (d : DiskState). IsSettled d) (sym is) refl
handed_settled place out disk is = absurd is
handed_settled place (stands part) disk is = subst (λ (d : DiskState). IsSettled d) (sym is) refl

handed_seen : (place : Slot) (old : PartState) (disk : DiskState) → IsHanded place old disk → disk.seen ≡ seen_in old
handed_seen place absent disk is = ap (λ (d : DiskState). d.seen) is
handed_seen place out disk is = absurd is
handed_seen place (stands part) disk is = ap (λ (d : DiskState). d.seen) is

-- the moments of a part that was handed out or made
handed_leaves : (place : Slot) (old : PartState) (disk new : DiskState) (P : List ℕ → Type 0) → IsHanded place old disk → LeavesOnly disk new P → LeavesSince (moments_of old) (moments new) P
handed_leaves place absent disk new P is leaves =
    let made : LeavesOnly (made_part place) new P = subst (λ (d : DiskState). LeavesOnly d new P) is leaves in
    since_then [] (moments (made_part place)) (moments new) P (one_moment [] (moments (made_part place)) (made_part place).now P refl (made.first refl)) (made.run refl)
handed_leaves place out disk new P is leaves = absurd is
handed_leaves place (stands part) disk new P is leaves = handed_since place part new P (subst (λ (d : DiskState). LeavesOnly d new P) is leaves)

-- and of one that was written as a gated part is
pub gated_since : (place : Slot) (old now : PartState) (disk new : DiskState) (payload : List ℕ) → IsHanded place old disk → now ≡ stands new → LeavesOnly disk new (IsOldOrNew disk.seen payload)
    → LeavesSince (moments_of old) (moments_of now) (IsOldOrNew (seen_in old) payload)
gated_since place old now disk new payload is back leaves =
    subst (λ (p : PartState). LeavesSince (moments_of old) (moments_of p) (IsOldOrNew (seen_in old) payload)) (sym back)
    (subst (λ (bytes : List ℕ). LeavesSince (moments_of old) (moments new) (IsOldOrNew bytes payload)) (handed_seen place old disk is)
    (handed_leaves place old disk new (IsOldOrNew disk.seen payload) is leaves))

-- a part that was at most read
pub untouched_since : (old new : PartState) (payload : List ℕ) → IsUntouched old new → LeavesSince (moments_of old) (moments_of new) (IsOldOrNew (seen_in old) payload)
untouched_since (stands old) (stands new) payload same = since_weakened (moments old) (moments new) (λ image. image ≡ old.seen) (IsOldOrNew old.seen payload) same.1 (λ image is. inr (inr (ap gated_of is)))
untouched_since (stands old) absent payload same = absurd same
untouched_since (stands old) out payload same = absurd same
untouched_since absent new payload same = no_moment [] (moments_of new) (IsOldOrNew [] payload) (ap moments_of same)
untouched_since out new payload same = no_moment [] (moments_of new) (IsOldOrNew [] payload) (ap moments_of same)

pub untouched_seen : (old new : PartState) → IsUntouched old new → seen_in new ≡ seen_in old
untouched_seen (stands old) (stands new) same = same.0
untouched_seen (stands old) absent same = absurd same
untouched_seen (stands old) out same = absurd same
untouched_seen absent new same = ap seen_in same
untouched_seen out new same = ap seen_in same

-- a part that was at most read, and was then handed out and written as a gated part is
pub untouched_then : (old mid new : PartState) (payload : List ℕ) → IsUntouched old mid → LeavesSince (moments_of mid) (moments_of new) (IsOldOrNew (seen_in mid) payload) → LeavesSince (moments_of old) (moments_of new) (IsOldOrNew (seen_in old) payload)
untouched_then old mid new payload same run =
    since_then (moments_of old) (moments_of mid) (moments_of new) (IsOldOrNew (seen_in old) payload) (untouched_since old mid payload same)
    (subst (λ (bytes : List ℕ). LeavesSince (moments_of mid) (moments_of new) (IsOldOrNew bytes payload)) (untouched_seen old mid same) run)

untouched_leaves : (place : Slot) (old : PartState) (disk : DiskState) (payload : List ℕ) → IsHanded place old disk → LeavesOnly disk disk (IsOldOrNew disk.seen payload)
untouched_leaves place old disk payload is =
    stays disk disk (IsOldOrNew disk.seen payload) refl (λ tells. settled_image disk (IsOldOrNew disk.seen payload) (handed_settled place old disk is) (inr (inr refl)))

alone_since : (place : Slot) (old new : PartState) (payload : List ℕ) → IsLeftAlone place old new → LeavesSince (moments_of old) (moments_of new) (IsOldOrNew (seen_in old) payload)
alone_since place old new payload (inl same) = no_moment (moments_of old) (moments_of new) (IsOldOrNew (seen_in old) payload) (ap moments_of same)
alone_since place old new payload (inr put) = gated_since place old new put.0 put.0 payload put.2 put.1 (untouched_leaves place old put.0 payload put.2)

alone_in : (place : Slot) (old new : PartState) → IsLeftAlone place old new → old ≢ out → new ≢ out
alone_in place old new (inl same) not_out e = not_out (sym same ∙ e)
alone_in place old new (inr put) not_out e = stands-not-out new put.0 put.1 e

alone_untouched : (place : Slot) (old new : PartState) → IsLeftAlone place old new → gated_of (seen_in old) ≢ Absent → IsUntouched old new
alone_untouched place old new (inl same) full = untouched_by old new same
alone_untouched place absent new (inr put) full = absurd (full refl)
alone_untouched place out new (inr put) full = absurd put.2
alone_untouched place (stands part) new (inr put) full = put_untouched place part put.0 (stands part) new refl put.2 put.1

-- Where the first part was not handed out.
pub lets_first_go : (gated filled : Part) (payload filling : List ℕ) (before after : ShelfState) (dir : List ℕ) → same_slot (slot dir gated) (slot dir filled) ≡ false → MayMakeAny before (slot dir gated) after → LetsNewGo gated filled payload filling before dir after
lets_first_go gated filled payload filling before after dir apart may = record {
  tells = may.tells;
  any_moment = λ tells. alone_since (slot dir gated) (part_in before dir gated) (part_in after dir gated) payload (may.part tells);
  order = λ tells. inl (may.part tells);
  there = λ tells full. (alone_untouched (slot dir gated) (part_in before dir gated) (part_in after dir gated) (may.part tells) full, may.others (slot dir filled) apart);
  others = λ tells other away. may.others other (neither (same_slot (slot dir gated) other) (same_slot (slot dir filled) other) away).0;
  home = λ tells home. home_again gated filled dir after (alone_in (slot dir gated) (part_in before dir gated) (part_in after dir gated) (may.part tells) (home (slot dir gated)))
      (subst (λ (p : PartState). p ≢ out) (sym (may.others (slot dir filled) apart)) (home (slot dir filled)))
      (λ other away. subst (λ (p : PartState). p ≢ out) (sym (may.others other (neither (same_slot (slot dir gated) other) (same_slot (slot dir filled) other) away).0)) (home other));
  places = λ tells place. each_of_two gated filled dir before after StaysIn (alone_in (slot dir gated) (part_in before dir gated) (part_in after dir gated) (may.part tells))
      (stays_in (part_in before dir filled) (part_in after dir filled) (may.others (slot dir filled) apart)) (λ other. stays_in (before.parts other) (after.parts other))
      (λ other away. may.others other (neither (same_slot (slot dir gated) other) (same_slot (slot dir filled) other) away).0) place;
}

-- Where the second was not.
pub lets_second_go : (gated filled : Part) (payload filling : List ℕ) (before mid done after : ShelfState) (dir : List ℕ) (first disk : DiskState) → same_slot (slot dir gated) (slot dir filled) ≡ false
    → HandsOutAny before (slot dir gated) first mid → MayMakeAny mid (slot dir filled) done → (IsTrue first.tells → gated_of first.seen ≢ Absent → done ≡ mid) → disk ≡ first → after.tells ≡ done.tells → PutsAny done disk after → LetsNewGo gated filled payload filling before dir after
lets_second_go gated filled payload filling before mid done after dir first disk apart hands may kept same t3 puts = record {
  tells = t3 ∙ may.tells ∙ hands.tells;
  any_moment = λ tells. alone_since (slot dir gated) (part_in before dir gated) (part_in after dir gated) payload (alone tells);
  order = λ tells. inl (alone tells);
  there = λ tells full. (
    alone_untouched (slot dir gated) (part_in before dir gated) (part_in after dir gated) (alone tells) full,
    (put tells).others (slot dir filled) apart
        ∙ ap (λ (s : ShelfState). part_in s dir filled) (kept (told before.tells first.tells hands.disk_tells tells) (λ gone. full (ap gated_of (sym (handed_seen (slot dir gated) (part_in before dir gated) first (hands.part tells))) ∙ gone)))
        ∙ hands.others (slot dir filled) apart,
  );
  others = λ tells other away. elsewhere tells other away;
  home = λ tells home. home_again gated filled dir after (stands-not-out (part_in after dir gated) disk (back tells))
      (subst (λ (p : PartState). p ≢ out) (sym ((put tells).others (slot dir filled) apart))
      (alone_in (slot dir filled) (part_in mid dir filled) (part_in done dir filled) (may.part (told_mid tells)) (subst (λ (p : PartState). p ≢ out) (sym (hands.others (slot dir filled) apart)) (home (slot dir filled)))))
      (λ other away. subst (λ (p : PartState). p ≢ out) (sym (elsewhere tells other away)) (home other));
  places = λ tells place. each_of_two gated filled dir before after StaysIn (λ was. stands-not-out (part_in after dir gated) disk (back tells))
      (λ was is. alone_in (slot dir filled) (part_in mid dir filled) (part_in done dir filled) (may.part (told_mid tells)) (λ gone. was (sym (hands.others (slot dir filled) apart) ∙ gone))
      (sym ((put tells).others (slot dir filled) apart) ∙ is)) (λ other. stays_in (before.parts other) (after.parts other)) (elsewhere tells) place;
}
  where
    told_mid : IsTrue before.tells → IsTrue mid.tells
    told_mid tells = told before.tells mid.tells hands.tells tells

    handed : IsTrue before.tells → IsHanded (slot dir gated) (part_in before dir gated) disk
    handed tells = subst (λ (d : DiskState). IsHanded (slot dir gated) (part_in before dir gated) d) (sym same) (hands.part tells)

    put : IsTrue before.tells → PutsBack done (slot dir gated) disk after
    put tells = puts (slot dir gated) (handed_slot (slot dir gated) (part_in before dir gated) disk (handed tells))

    back : IsTrue before.tells → part_in after dir gated ≡ stands disk
    back tells = (put tells).part (told mid.tells done.tells may.tells (told_mid tells))

    alone : IsTrue before.tells → IsLeftAlone (slot dir gated) (part_in before dir gated) (part_in after dir gated)
    alone tells = inr (disk, back tells, handed tells)

    elsewhere : IsTrue before.tells → KeepsAllBut (gated ∷ filled ∷ []) dir before after
    elsewhere tells other away =
        let two = neither (same_slot (slot dir gated) other) (same_slot (slot dir filled) other) away in
        (put tells).others other two.0 ∙ may.others other two.1 ∙ hands.others other two.0

-- Where both were handed out, and are put back after what was written.
pub lets_both_new_go : (gated filled : Part) (payload filling : List ℕ) (before mid taken between after : ShelfState) (dir : List ℕ) (first first_new second second_new : DiskState)
    → same_slot (slot dir gated) (slot dir filled) ≡ false → same_slot (slot dir filled) (slot dir gated) ≡ false
    → HandsOutAny before (slot dir gated) first mid → HandsOutAny mid (slot dir filled) second taken → (IsTrue first.tells → gated_of first.seen ≡ Absent)
    → LeavesOnly first first_new (IsOldOrNew first.seen payload) → second_new.slot ≡ second.slot → (IsTrue second.tells → (first_new ≡ first) ⊎ IsOnDisk filling second_new)
    → between.tells ≡ taken.tells → after.tells ≡ between.tells → PutsAny taken second_new between → PutsAny between first_new after → LetsNewGo gated filled payload filling before dir after
lets_both_new_go gated filled payload filling before mid taken between after dir first first_new second second_new apart apart' h1 h2 gone leaves same_slot_of order t3 t4 p1 p2 = record {
  tells = t4 ∙ t3 ∙ h2.tells ∙ h1.tells;
  any_moment = λ tells. gated_since (slot dir gated) (part_in before dir gated) (part_in after dir gated) first first_new payload (h1.part tells) (back tells) leaves;
  there = λ tells full. absurd (full (ap gated_of (sym (handed_seen (slot dir gated) (part_in before dir gated) first (h1.part tells))) ∙ gone (told before.tells first.tells h1.disk_tells tells)));
  order = λ tells. by tells (order (told mid.tells second.tells h2.disk_tells (told_mid tells)));
  others = λ tells other away. elsewhere tells other away;
  home = λ tells home. home_again gated filled dir after (stands-not-out (part_in after dir gated) first_new (back tells)) (stands-not-out (part_in after dir filled) second_new (back_filled tells))
      (λ other away. subst (λ (p : PartState). p ≢ out) (sym (elsewhere tells other away)) (home other));
  places = λ tells place. each_of_two gated filled dir before after StaysIn (λ was. stands-not-out (part_in after dir gated) first_new (back tells))
      (λ was. stands-not-out (part_in after dir filled) second_new (back_filled tells)) (λ other. stays_in (before.parts other) (after.parts other)) (elsewhere tells) place;
}
  where
    told_mid : IsTrue before.tells → IsTrue mid.tells
    told_mid tells = told before.tells mid.tells h1.tells tells

    told_taken : IsTrue before.tells → IsTrue taken.tells
    told_taken tells = told mid.tells taken.tells h2.tells (told_mid tells)

    put_filled : IsTrue before.tells → PutsBack taken (slot dir filled) second_new between
    put_filled tells = p1 (slot dir filled) (same_slot_of ∙ handed_slot (slot dir filled) (part_in mid dir filled) second (h2.part (told_mid tells)))

    put_gated : IsTrue before.tells → PutsBack between (slot dir gated) first_new after
    put_gated tells = p2 (slot dir gated) (leaves.disk.slot ∙ handed_slot (slot dir gated) (part_in before dir gated) first (h1.part tells))

    back : IsTrue before.tells → part_in after dir gated ≡ stands first_new
    back tells = (put_gated tells).part (told taken.tells between.tells t3 (told_taken tells))

    back_filled : IsTrue before.tells → part_in after dir filled ≡ stands second_new
    back_filled tells = (put_gated tells).others (slot dir filled) apart ∙ (put_filled tells).part (told_taken tells)

    by : (tells : IsTrue before.tells) → (first_new ≡ first) ⊎ IsOnDisk filling second_new
        → IsLeftAlone (slot dir gated) (part_in before dir gated) (part_in after dir gated) ⊎ ((disk : DiskState) × (part_in after dir filled ≡ stands disk) × IsOnDisk filling disk)
    by tells (inl same) = inl (inr (first_new, back tells, subst (λ (d : DiskState). IsHanded (slot dir gated) (part_in before dir gated) d) (sym same) (h1.part tells)))
    by tells (inr filled_so) = inr (second_new, back_filled tells, filled_so)

    elsewhere : IsTrue before.tells → KeepsAllBut (gated ∷ filled ∷ []) dir before after
    elsewhere tells other away =
        let two = neither (same_slot (slot dir gated) other) (same_slot (slot dir filled) other) away in
        (put_gated tells).others other two.0 ∙ (put_filled tells).others other two.1 ∙ h2.others other two.1 ∙ h1.others other two.0

-- Behind the second part, the first is still out.
pub first_still_out : (gated filled : Part) (before mid taken between : ShelfState) (dir : List ℕ) (first first_new second second_new : DiskState) → same_slot (slot dir filled) (slot dir gated) ≡ false
    → HandsOutAny before (slot dir gated) first mid → HandsOutAny mid (slot dir filled) second taken → first_new.slot ≡ first.slot → second_new.slot ≡ second.slot
    → between.tells ≡ taken.tells → PutsAny taken second_new between → IsTrue between.tells → IsOfOut between first_new
first_still_out gated filled before mid taken between dir first first_new second second_new apart h1 h2 same same' t3 p1 tells =
    let t2 : IsTrue mid.tells = told between.tells mid.tells (sym (t3 ∙ h2.tells)) tells in
    let t1 : IsTrue before.tells = told mid.tells before.tells (sym h1.tells) t2 in
    let of_filled = same' ∙ handed_slot (slot dir filled) (part_in mid dir filled) second (h2.part t2) in (
      slot dir gated,
      same ∙ handed_slot (slot dir gated) (part_in before dir gated) first (h1.part t1),
      (p1 (slot dir filled) of_filled).others (slot dir gated) apart ∙ h2.others (slot dir gated) apart ∙ h1.is_out t1,
    )

-- Both parts were handed out, and a key was created of them.
pub makes_key : (secret : SecretData) (before mid after : ShelfState) (dir : List ℕ) (parts : KeyParts) (store : KeyState) → HandsOutAny before (slot dir Key) parts.key mid → HandsOutAny mid (slot dir Used) parts.used after
    → CreatesKey secret parts store → MakesKey secret before dir store after
makes_key secret before mid after dir parts store h1 h2 creates = record {
  tells = h2.tells ∙ h1.tells;
  key_tells = creates.creating.any_moment.disk.tells ∙ h1.disk_tells;
  used_tells = creates.creating.used_disk.tells ∙ h2.disk_tells ∙ h1.tells;
  created = λ tells. (
    parts,
    h1.part tells,
    subst (λ (p : PartState). IsHanded (slot dir Used) p parts.used) (h1.others (slot dir Used) refl) (h2.part (told before.tells mid.tells h1.tells tells)),
    creates,
  );
  key_out = λ tells. h2.others (slot dir Key) refl ∙ h1.is_out tells;
  used_out = λ tells. h2.is_out (told before.tells mid.tells h1.tells tells);
  others = λ other away.
      let two = neither (same_slot (slot dir Key) other) (same_slot (slot dir Used) other) away in
      h2.others other two.1 ∙ h1.others other two.0;
}

not_it : (x : Bool) → x || false ≡ false → x ≡ false
not_it true e = absurd (true≢false e)
not_it false e = refl

-- A part that was handed out, read and put back.
pub read_untouched : (before mid after : ShelfState) (dir : List ℕ) (part : Part) (found disk : DiskState) → HandsOut before (slot dir part) found mid → disk ≡ found → PutsAny mid disk after → IsTrue before.tells → IsUntouched (part_in before dir part) (part_in after dir part)
read_untouched before mid after dir part found disk hands same puts tells =
    put_untouched (slot dir part) (hands.part tells).0 disk (part_in before dir part) (part_in after dir part) (hands.part tells).1 (same ∙ (hands.part tells).2)
    ((puts (slot dir part) (ap (λ (d : DiskState). d.slot) same ∙ slot_of (slot dir part) (hands.part tells).0 found (hands.part tells).2)).part (told before.tells mid.tells hands.tells tells))

pub read_others : (before mid after : ShelfState) (dir : List ℕ) (part : Part) (found disk : DiskState) → HandsOut before (slot dir part) found mid → disk ≡ found → PutsAny mid disk after → IsTrue before.tells → KeepsAllBut (part ∷ []) dir before after
read_others before mid after dir part found disk hands same puts tells other away =
    let off = not_it (same_slot (slot dir part) other) away in
    (puts (slot dir part) (ap (λ (d : DiskState). d.slot) same ∙ slot_of (slot dir part) (hands.part tells).0 found (hands.part tells).2)).others other off ∙ hands.others other off

-- A part that was handed out, written as a gated part is and put back, whether it was there or not.
pub made_others : (before mid after : ShelfState) (dir : List ℕ) (part : Part) (found disk : DiskState) → HandsOutAny before (slot dir part) found mid → IsSameDisk found disk → PutsAny mid disk after
    → IsTrue before.tells → KeepsAllBut (part ∷ []) dir before after
made_others before mid after dir part found disk hands same puts tells other away =
    let off = not_it (same_slot (slot dir part) other) away in
    (puts (slot dir part) (same.slot ∙ handed_slot (slot dir part) (before.parts (slot dir part)) found (hands.part tells))).others other off ∙ hands.others other off
