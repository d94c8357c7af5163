-- A directory whose part Schema was looked at.
use Rattle.std.proofs.Common.{◌≡◌, ◌≢◌, Bool, true, false, List, [], ◌∷◌, ℕ, refl, sym, ap, subst, ◌∙◌, IsTrue, Err, inl, inr}
use Rattle.std.specs.Prelude.{◌||◌}
use Rattle.std.specs.List.{list_any}
use Rattle.bec_bytes.specs.Causes.{Rose}
use Rattle.bec_disk.specs.declared.disk_error.DiskError.{DiskError}
use Rattle.bec_disk.specs.declared.disk_error.DiskError.TheVariants as disk_errors
use Rattle.bec_disk.specs.declared.part.Part.TheVariants.{Schema, Updates}
use Rattle.bec_disk.specs.Gated.{gated_of}
use Rattle.bec_disk.specs.Shelf.{PartState, ShelfState, absent, out, stands}
use Rattle.bec_disk.specs.Slot.{Slot, same_slot, slot}
use Rattle.key_directory.proofs.Places.{home_again, neither}
use Rattle.key_directory.proofs.Putting.{told}
use Rattle.key_directory.specs.Parts.{IsHome, IsUntouched, KeepsAllBut, part_in, reading}
use Rattle.outcomes.specs.Comes.{IsShelfFault}
use Rattle.outcomes.specs.Outcome.{from_disk}
use Rattle.store_directory.proofs.OnceOpen.{in_place}
use Rattle.store_directory.specs.Stores.{IsNoStore}
use Rattle.import_commands.specs.Importing.{LooksThere}

only_first : (x : Bool) → x ≡ false → x || false ≡ false
only_first true e = e
only_first false e = refl

-- a part that reads as no store does so still
pub none_still : (old new : PartState) → IsUntouched old new → IsNoStore (reading old) → IsNoStore (reading new)
none_still (stands old) (stands new) same none = ap gated_of same.0 ∙ none
none_still (stands old) absent same none = absurd same
none_still (stands old) out same none = absurd same
none_still absent new same none = subst (λ (p : PartState). IsNoStore (reading p)) (sym same) tt
none_still out new same none = subst (λ (p : PartState). IsNoStore (reading p)) (sym same) tt

-- no part is out
pub home_looked : (dir : List ℕ) (before after : ShelfState) (old new : ℕ) → (IsTrue before.tells → IsHome before) → LooksThere dir before after old new → IsTrue after.tells → IsHome after
home_looked dir before after old new home looks tells =
    home_again Schema Updates dir after (in_place (part_in before dir Schema) (part_in after dir Schema) (looks.untouched was) (home was (slot dir Schema)))
    (subst (λ (p : PartState). p ≢ out) (sym (looks.others was (slot dir Updates) refl)) (home was (slot dir Updates)))
    (λ other away. subst (λ (p : PartState). p ≢ out) (sym (kept other away)) (home was other))
  where
    was : IsTrue before.tells
    was = told after.tells before.tells (sym looks.tells) tells

    kept : (other : Slot) → list_any (λ part. same_slot (slot dir part) other) (Schema ∷ Updates ∷ []) ≡ false → after.parts other ≡ before.parts other
    kept other away = looks.others was other (only_first (same_slot (slot dir Schema) other) (neither (same_slot (slot dir Schema) other) (same_slot (slot dir Updates) other) away).0)

-- the shelf failed at it, or memory ran out
pub look_failed : (old new : ℕ) (why : DiskError) → (why ≡ disk_errors.DiskFault → Rose old new) → IsShelfFault old new (Err (from_disk why))
look_failed old new disk_errors.DiskFault failed = inr (refl, failed refl)
look_failed old new disk_errors.Memory failed = inl refl

pub looked_others : (dir : List ℕ) (before after : ShelfState) (old new : ℕ) → LooksThere dir before after old new → IsTrue before.tells → KeepsAllBut (Schema ∷ Updates ∷ []) dir before after
looked_others dir before after old new looks tells other away =
    looks.others tells other (only_first (same_slot (slot dir Schema) other) (neither (same_slot (slot dir Schema) other) (same_slot (slot dir Updates) other) away).0)
