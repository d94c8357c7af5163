-- Keys that are taken from a directory or made there, and put back.
use Rattle.std.proofs.Common.{◌≡◌, ◌≢◌, ◌⊎◌, inl, inr, ℕ, Bool, true, false, List, [], ◌∷◌, refl, sym, ◌∙◌, ap, subst, IsTrue, Some, None, Option}
use Rattle.std.specs.List.{list_any}
use Rattle.rand_core.specs.Stream.{Stream}
use Rattle.bec_disk.specs.declared.part.Part.{Part}
use Rattle.bec_disk.specs.declared.part.Part.TheVariants.{Key, Used, Peers}
use Rattle.bec_disk.specs.Disk.{DiskState, LeavesSince, handed_out, moments}
use Rattle.bec_disk.specs.Shelf.{PartState, ShelfState, absent, moments_of, out, stands}
use Rattle.bec_disk.specs.Slot.{Slot, same_slot, slot}
use Rattle.bec_disk.proofs.Moments.{since_then}
use Rattle.lm_ots.specs.declared.ots_type.OtsType.{OtsType}
use Rattle.lms_tree.specs.declared.lms_type.LmsType.{LmsType}
use Rattle.lms_tree.specs.SecretKey.{SecretData}
use Rattle.key_index.specs.KeyState.{KeyParts, KeyState}
use Rattle.key_directory.specs.Keys.{IsNoKey, LetsKeyGo, MakesKey, PutsKey, TakesKey}
use Rattle.key_directory.specs.Parts.{IsUntouched, KeepsAllBut, LetsNewGo, part_in, reading}
use Rattle.key_directory.proofs.Handing.{put_untouched, untouched_by}
use Rattle.key_directory.proofs.Making.{handed_slot}
use Rattle.key_directory.proofs.Places.{each_of_two, neither_of, same_place, stands-not-out}
use Rattle.key_directory.proofs.Putting.{slot_of, told}
use Rattle.hss_directory.specs.Lower.{LetsLowerGo, TakesLower, made, taken}
use Rattle.hss_directory.specs.Places.{HoldsKey, OnlyReads}

-- a part that was at most read is where it was, and reads as it did
pub untouched_in : (old new : PartState) → IsUntouched old new → old ≢ out → new ≢ out
untouched_in (stands old) (stands new) same not_out = stands-not-out (stands new) new refl
untouched_in (stands old) absent same not_out = absurd same
untouched_in (stands old) out same not_out = absurd same
untouched_in absent new same not_out = λ is. not_out (sym same ∙ is)
untouched_in out new same not_out = absurd (not_out refl)

pub untouched_out : (old new : PartState) → IsUntouched old new → old ≡ out → new ≡ out
untouched_out (stands old) new same is = absurd (stands-not-out (stands old) old refl is)
untouched_out absent new same is = same ∙ is
untouched_out out new same is = same

pub untouched_reading : (old new : PartState) → IsUntouched old new → reading new ≡ reading old
untouched_reading (stands old) (stands new) same = ap (λ (bytes : List ℕ). Some bytes) same.0
untouched_reading (stands old) absent same = absurd same
untouched_reading (stands old) out same = absurd same
untouched_reading absent new same = ap reading same
untouched_reading out new same = ap reading same

pub untouched_through : (old mid new : PartState) → IsUntouched old mid → IsUntouched mid new → IsUntouched old new
untouched_through (stands old) (stands mid) (stands new) a b = (
  b.0 ∙ a.0,
  since_then (moments old) (moments mid) (moments new) (λ image. image ≡ old.seen) a.1
      (subst (λ (bytes : List ℕ). LeavesSince (moments mid) (moments new) (λ image. image ≡ bytes)) a.0 b.1),
)
untouched_through (stands old) (stands mid) absent a b = absurd b
untouched_through (stands old) (stands mid) out a b = absurd b
untouched_through (stands old) absent new a b = absurd a
untouched_through (stands old) out new a b = absurd a
untouched_through absent mid new a b = subst (λ (p : PartState). IsUntouched p new) a b
untouched_through out mid new a b = subst (λ (p : PartState). IsUntouched p new) a b

untouched_else : (before after : ShelfState) (other : Slot) → after.parts other ≡ before.parts other → IsUntouched (before.parts other) (after.parts other)
untouched_else before after other same = untouched_by (before.parts other) (after.parts other) same

-- no key was taken, and everything was at most read
pub go_only : (before after : ShelfState) (dir : List ℕ) → LetsKeyGo before dir after → OnlyReads before after
go_only before after dir goes = record {
  tells = goes.tells;
  parts = λ tells place. each_of_two Key Used dir before after IsUntouched (goes.key_part tells) (goes.used_part tells) (untouched_else before after) (goes.others tells) place;
}

-- nothing was done
pub only_same : (before after : ShelfState) → after ≡ before → OnlyReads before after
only_same before after same = record {
  tells = ap (λ (s : ShelfState). s.tells) same;
  parts = λ tells place. untouched_by (before.parts place) (after.parts place) (ap (λ (s : ShelfState). s.parts place) same);
}

pub only_through : (before mid after : ShelfState) → OnlyReads before mid → OnlyReads mid after → OnlyReads before after
only_through before mid after a b = record {
  tells = b.tells ∙ a.tells;
  parts = λ tells place. untouched_through (before.parts place) (mid.parts place) (after.parts place) (a.parts tells place) (b.parts (told before.tells mid.tells a.tells tells) place);
}

-- a key was taken and put back
pub taken_back : (before opened closing after : ShelfState) (dir : List ℕ) (key : KeyState) → TakesKey before dir key opened → OnlyReads opened closing → PutsKey closing dir key.parts after → OnlyReads before after
taken_back before opened closing after dir key takes only puts = record {
  tells = puts.tells ∙ only.tells ∙ takes.tells;
  parts = λ tells place.
      let told_opened : IsTrue opened.tells = told before.tells opened.tells takes.tells tells in
      let told_closing : IsTrue closing.tells = told opened.tells closing.tells only.tells told_opened in
      by tells told_opened told_closing place (same_slot (slot dir Key) place) (same_slot (slot dir Used) place) refl refl;
}
  where
    by : IsTrue before.tells → IsTrue opened.tells → IsTrue closing.tells → (place : Slot) → (x y : Bool) → same_slot (slot dir Key) place ≡ x → same_slot (slot dir Used) place ≡ y → IsUntouched (before.parts place) (after.parts place)
    by t1 t2 t3 place true y e f =
        subst (λ (p : Slot). IsUntouched (before.parts p) (after.parts p)) (same_place (slot dir Key) place e)
        (put_untouched (slot dir Key) (takes.key_part t1).0 key.parts.key (part_in before dir Key) (part_in after dir Key) (takes.key_part t1).1 (takes.key_part t1).2 (puts.key_back t3))
    by t1 t2 t3 place false true e f =
        subst (λ (p : Slot). IsUntouched (before.parts p) (after.parts p)) (same_place (slot dir Used) place f)
        (put_untouched (slot dir Used) (takes.used_part t1).0 key.parts.used (part_in before dir Used) (part_in after dir Used) (takes.used_part t1).1 (takes.used_part t1).2 (puts.used_back t3))
    by t1 t2 t3 place false false e f =
        let away = neither_of (same_slot (slot dir Key) place) (same_slot (slot dir Used) place) e f in
        subst (λ (p : PartState). IsUntouched p (after.parts place)) (takes.others place away)
        (subst (λ (p : PartState). IsUntouched (opened.parts place) p) (sym (puts.others t3 place away)) (only.parts t2 place))

-- what is handed out of a key that was taken
pub holds_taken : (before after : ShelfState) (dir : List ℕ) (key : KeyState) → TakesKey before dir key after → IsTrue before.tells → HoldsKey after dir key
holds_taken before after dir key takes tells = record {
  key_slot = slot_of (slot dir Key) (takes.key_part tells).0 key.parts.key (takes.key_part tells).2;
  key_out = takes.key_out tells;
  used_slot = slot_of (slot dir Used) (takes.used_part tells).0 key.parts.used (takes.used_part tells).2;
  used_out = takes.used_out tells;
}

pub holds_made : (secret : SecretData) (before after : ShelfState) (dir : List ℕ) (key : KeyState) → MakesKey secret before dir key after → IsTrue before.tells → HoldsKey after dir key
holds_made secret before after dir key makes tells =
    let c = makes.created tells in
    record {
      key_slot = c.3.creating.any_moment.disk.slot ∙ handed_slot (slot dir Key) (part_in before dir Key) c.0.key c.1;
      key_out = makes.key_out tells;
      used_slot = c.3.creating.used_disk.slot ∙ handed_slot (slot dir Used) (part_in before dir Used) c.0.used c.2;
      used_out = makes.used_out tells;
    }

pub lower_tells : (lms : LmsType) (ots : OtsType) (random left : Stream) (before after : ShelfState) (dir : List ℕ) (key : KeyState) → TakesLower lms ots random before dir key after left → after.tells ≡ before.tells
lower_tells lms ots random left before after dir key (taken takes same) = takes.tells
lower_tells lms ots random left before after dir key (made mid goes none makes drawn) = makes.tells ∙ goes.tells

pub holds_lower : (lms : LmsType) (ots : OtsType) (random left : Stream) (before after : ShelfState) (dir : List ℕ) (key : KeyState) → TakesLower lms ots random before dir key after left → IsTrue before.tells → HoldsKey after dir key
holds_lower lms ots random left before after dir key (taken takes same) tells = holds_taken before after dir key takes tells
holds_lower lms ots random left before after dir key (made mid goes none makes drawn) tells = holds_made _ mid after dir key makes (told before.tells mid.tells goes.tells tells)

pub lower_keeps : (lms : LmsType) (ots : OtsType) (random left : Stream) (before after : ShelfState) (dir : List ℕ) (key : KeyState) → TakesLower lms ots random before dir key after left → IsTrue before.tells → KeepsAllBut (Key ∷ Used ∷ []) dir before after
lower_keeps lms ots random left before after dir key (taken takes same) tells = takes.others
lower_keeps lms ots random left before after dir key (made mid goes none makes drawn) tells = λ other away. makes.others other away ∙ goes.others tells other away
