-- Places on a shelf, and parts of a directory among them.
use Rattle.std.proofs.Common.{◌≡◌, ◌≢◌, ℕ, zero, suc, Bool, true, false, List, [], ◌∷◌, refl, sym, ◌∙◌, ap, subst}
use Rattle.std.specs.Prelude.{◌&&◌, ◌||◌, ◌==◌}
use Rattle.std.specs.List.{list_any}
use Rattle.std.specs.Str.{bytes_eq}
use Rattle.std.proofs.lemmas.Bool.{false≢true, true≢false}
use Rattle.std.proofs.lemmas.Bool.Decides.{Decides-eqb}
use Rattle.std.proofs.lemmas.Slice.Eq.{bytes_eq-Decides}
use Rattle.bec_disk.specs.declared.part.Part.{Part}
use Rattle.bec_disk.specs.declared.part.Part.TheVariants.{Schema, Updates, Key, Used, Peers}
use Rattle.bec_disk.specs.Disk.{DiskState}
use Rattle.bec_disk.specs.Shelf.{PartState, ShelfState, absent, out, stands}
use Rattle.bec_disk.specs.Slot.{Slot, number_of, same_slot, slot}
use Rattle.key_directory.specs.Parts.{IsHome, KeepsAllBut, part_in}

part_with : ℕ → Part
part_with zero = Schema
part_with (suc zero) = Updates
part_with (suc (suc zero)) = Key
part_with (suc (suc (suc zero))) = Used
part_with (suc (suc (suc (suc n)))) = Peers

part-back : (part : Part) → part_with (number_of part) ≡ part
unfolding part_with
part-back Schema = refl
part-back Updates = refl
part-back Key = refl
part-back Used = refl
part-back Peers = refl

both : (x y : Bool) → x && y ≡ true → (x ≡ true) × (y ≡ true)
both true y e = (refl, e)
both false y e = absurd (false≢true e)

-- what the test of places finds the same is the same
pub same_place : (a b : Slot) → same_slot a b ≡ true → a ≡ b
same_place a b e =
    let is = both (number_of a.part == number_of b.part) (bytes_eq a.dir b.dir) e in
    let parts = sym (part-back a.part) ∙ ap part_with ((Decides-eqb (number_of a.part) (number_of b.part)).0 is.0) ∙ part-back b.part in
    ap (λ (dir : List ℕ). slot dir a.part) ((bytes_eq-Decides a.dir b.dir).0 is.1) ∙ ap (λ (part : Part). slot b.dir part) parts

-- a place that is neither of two
pub neither : (x y : Bool) → x || (y || false) ≡ false → (x ≡ false) × (y ≡ false)
neither true y e = absurd (true≢false e)
neither false true e = absurd (true≢false e)
neither false false e = (refl, refl)

pub neither_of : (x y : Bool) → x ≡ false → y ≡ false → x || (y || false) ≡ false
neither_of true y e f = absurd (true≢false e)
neither_of false true e f = absurd (true≢false f)
neither_of false false e f = refl

is_out : PartState → Type 0
is_out absent = ⊥
is_out out = Unit {0}
is_out (stands part) = ⊥

-- a part that stands in its place is not out
pub stands-not-out : (place : PartState) (part : DiskState) → place ≡ stands part → place ≢ out
unfolding is_out
stands-not-out place part here e = subst is_out (sym e ∙ here) (tt {0})

-- Where two parts of a directory are in their places, so is the part of a place that is one of theirs, or where it is anyway.
pub place_again : (first second : Part) (dir : List ℕ) (shelf : ShelfState) → shelf.parts (slot dir first) ≢ out → shelf.parts (slot dir second) ≢ out
    → (place : Slot) → (list_any (λ part. same_slot (slot dir part) place) (first ∷ second ∷ []) ≡ false → shelf.parts place ≢ out) → shelf.parts place ≢ out
place_again first second dir shelf one two place anyway = by (same_slot (slot dir first) place) (same_slot (slot dir second) place) refl refl
  where
    by : (x y : Bool) → same_slot (slot dir first) place ≡ x → same_slot (slot dir second) place ≡ y → shelf.parts place ≢ out
    by true y e f = subst (λ (p : Slot). shelf.parts p ≢ out) (same_place (slot dir first) place e) one
    by false true e f = subst (λ (p : Slot). shelf.parts p ≢ out) (same_place (slot dir second) place f) two
    by false false e f = anyway (neither_of (same_slot (slot dir first) place) (same_slot (slot dir second) place) e f)

-- What holds of two parts of a directory, and of each part that is as it was, holds of every part.
pub each_of_two : (first second : Part) (dir : List ℕ) (before after : ShelfState) (P : PartState → PartState → Type 0) → P (part_in before dir first) (part_in after dir first) → P (part_in before dir second) (part_in after dir second)
    → ((other : Slot) → after.parts other ≡ before.parts other → P (before.parts other) (after.parts other)) → KeepsAllBut (first ∷ second ∷ []) dir before after → (place : Slot) → P (before.parts place) (after.parts place)
each_of_two first second dir before after P one two same keeps place = by (same_slot (slot dir first) place) (same_slot (slot dir second) place) refl refl
  where
    by : (x y : Bool) → same_slot (slot dir first) place ≡ x → same_slot (slot dir second) place ≡ y → P (before.parts place) (after.parts place)
    by true y e f = subst (λ (p : Slot). P (before.parts p) (after.parts p)) (same_place (slot dir first) place e) one
    by false true e f = subst (λ (p : Slot). P (before.parts p) (after.parts p)) (same_place (slot dir second) place f) two
    by false false e f = same place (keeps place (neither_of (same_slot (slot dir first) place) (same_slot (slot dir second) place) e f))

-- A part that is in its place stays there.
abbrev pub StaysIn : PartState → PartState → Type 0
StaysIn old new = old ≢ out → new ≢ out

pub stays_in : (old new : PartState) → new ≡ old → StaysIn old new
stays_in old new same in_place is = in_place (sym same ∙ is)

-- Where two parts of a directory are in their places, and every other part is, no part is handed out.
pub home_again : (first second : Part) (dir : List ℕ) (shelf : ShelfState) → shelf.parts (slot dir first) ≢ out → shelf.parts (slot dir second) ≢ out
    → ((other : Slot) → list_any (λ part. same_slot (slot dir part) other) (first ∷ second ∷ []) ≡ false → shelf.parts other ≢ out) → IsHome shelf
home_again first second dir shelf one two others place = place_again first second dir shelf one two place (others place)

-- One change of some parts after another.
pub keeps_through : (parts : List Part) (dir : List ℕ) (old mid new : ShelfState) → KeepsAllBut parts dir old mid → KeepsAllBut parts dir mid new → KeepsAllBut parts dir old new
keeps_through parts dir old mid new a b other away = b other away ∙ a other away
