-- Taking parts of a directory, and putting them back.
use Rattle.std.proofs.Common.{◌≡◌, ℕ, Bool, false, List, refl, sym, ◌∙◌, ap, subst, IsTrue, Some, Option, Ok}
use Rattle.bec_disk.specs.declared.part.Part.TheVariants.{Key, Used}
use Rattle.bec_disk.specs.Disk.{DiskState, handed_out}
use Rattle.bec_disk.specs.Shelf.{Finds, HandsOut, PartState, PutsBack, ShelfState, out, stands}
use Rattle.bec_disk.specs.Slot.{Slot, same_slot, slot}
use Rattle.key_index.specs.KeyState.{KeyParts}
use Rattle.key_directory.specs.Keys.{PutsKey}
use Rattle.key_directory.specs.Parts.{reading}
use Rattle.key_directory.proofs.Places.{neither}

-- A disk is put back as the part that it is of.
abbrev pub PutsAny : ShelfState → DiskState → ShelfState → Type 0
PutsAny old disk new = (place : Slot) → disk.slot ≡ Some place → PutsBack old place disk new

pub told : (old new : Bool) → new ≡ old → IsTrue old → IsTrue new
told old new same tells = subst (λ (b : Bool). IsTrue b) (sym same) tells

pub slot_of : (place : Slot) (part disk : DiskState) → disk ≡ handed_out place part → disk.slot ≡ Some place
slot_of place part disk is = ap (λ (d : DiskState). d.slot) is

pub reads_handed : (place : Slot) (part disk : DiskState) (old : PartState) → old ≡ stands part → disk ≡ handed_out place part → reading old ≡ Some disk.seen
reads_handed place part disk old there is = ap reading there ∙ ap (λ (d : DiskState). Some d.seen) (sym is)

pub puts_key : (before mid after : ShelfState) (dir : List ℕ) (parts : KeyParts) → (IsTrue before.tells → parts.key.slot ≡ Some (slot dir Key)) → (IsTrue before.tells → parts.used.slot ≡ Some (slot dir Used))
    → mid.tells ≡ before.tells → after.tells ≡ mid.tells → PutsAny before parts.used mid → PutsAny mid parts.key after → PutsKey before dir parts after
puts_key before mid after dir parts of_key of_used t1 t2 a b = record {
  tells = t2 ∙ t1;
  key_back = λ tells. (b (slot dir Key) (of_key tells)).part (told before.tells mid.tells t1 tells);
  used_back = λ tells. (b (slot dir Key) (of_key tells)).others (slot dir Used) refl ∙ (a (slot dir Used) (of_used tells)).part tells;
  others = λ tells other away.
      let two = neither (same_slot (slot dir Key) other) (same_slot (slot dir Used) other) away in
      (b (slot dir Key) (of_key tells)).others other two.0 ∙ (a (slot dir Used) (of_used tells)).others other two.1;
}

-- what is left where the first of two parts is put back behind the second
pub out_still : (before mid : ShelfState) (disk : DiskState) (place other : Slot) → disk.slot ≡ Some place → same_slot place other ≡ false → PutsAny before disk mid → before.parts other ≡ out → mid.parts other ≡ out
out_still before mid disk place other is apart puts gone = (puts place is).others other apart ∙ gone

-- what a search found
pub found : {D : Type 0} → (state : D → DiskState) (old : ShelfState) (place : Slot) (result : Option D) (disk : D) (new : ShelfState) → result ≡ Some disk → Finds state old place (Ok result) new → HandsOut old place (state disk) new
found {D} state old place result disk new is finds = subst (λ (r : Option D). Finds state old place (Ok r) new) is finds
