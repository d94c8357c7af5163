-- A store that is taken and put back, with what is remembered of peers.
use Rattle.std.proofs.Common.{◌≡◌, ◌≢◌, ℕ, Bool, true, false, List, [], ◌∷◌, refl, sym, ap, subst, ◌∙◌, IsTrue}
use Rattle.std.specs.Prelude.{◌||◌}
use Rattle.std.specs.List.{list_any}
use Rattle.std.proofs.lemmas.Bool.{true≢false}
use Rattle.row_check.specs.Checksum.{is_luhn}
use Rattle.bec_disk.specs.declared.part.Part.TheVariants.{Schema, Updates, Peers}
use Rattle.bec_disk.specs.Shelf.{PartState, ShelfState, out}
use Rattle.bec_disk.specs.Slot.{Slot, same_slot, slot}
use Rattle.replica.specs.Holding.{IsWhole}
use Rattle.replica.specs.Replicas.{ReplicaState}
use Rattle.store_directory.specs.Holding.{OpenData, PutsStore, TakesStore}
use Rattle.store_directory.specs.Memory.{remembered_in}
use Rattle.key_directory.specs.Parts.{KeepsPlaces, part_in, reading}
use Rattle.key_directory.proofs.Places.{place_again, stands-not-out}
use Rattle.key_directory.proofs.Putting.{told}
use Rattle.store_directory.specs.Remembering.{memory_in, touched}

three : (x y z : Bool) → x || (y || (z || false)) ≡ false → (x || (y || false) ≡ false) × (z || false ≡ false)
three true y z e = absurd (true≢false e)
three false true z e = absurd (true≢false e)
three false false true e = absurd (true≢false e)
three false false false e = (refl, refl)

-- a place that is none of three parts is none of a store's, nor that of the peers
pub of_store : (dir : List ℕ) (other : Slot) → list_any (λ part. same_slot (slot dir part) other) touched ≡ false → list_any (λ part. same_slot (slot dir part) other) (Schema ∷ Updates ∷ []) ≡ false
of_store dir other away = (three (same_slot (slot dir Schema) other) (same_slot (slot dir Updates) other) (same_slot (slot dir Peers) other) away).0

pub of_peers : (dir : List ℕ) (other : Slot) → list_any (λ part. same_slot (slot dir part) other) touched ≡ false → list_any (λ part. same_slot (slot dir part) other) (Peers ∷ []) ≡ false
of_peers dir other away = (three (same_slot (slot dir Schema) other) (same_slot (slot dir Updates) other) (same_slot (slot dir Peers) other) away).1

-- the peers of a directory whose part Peers is as it was
pub same_memory : (old new : ShelfState) (dir : List ℕ) → part_in new dir Peers ≡ part_in old dir Peers → memory_in new dir ≡ memory_in old dir
same_memory old new dir same = ap (λ (p : PartState). remembered_in (reading p)) same

-- What holds while the store of one directory is taken, something is done to other parts, and it is put back.
module _ (dir : List ℕ) (before opened closing after : ShelfState) (taken : OpenData) (now : ReplicaState) (takes : TakesStore is_luhn before dir taken opened)
    (puts : PutsStore closing dir taken.schema now.log.disk after) (same : closing.tells ≡ opened.tells) (places : IsTrue opened.tells → KeepsPlaces opened closing) where
  pub opened_told : IsTrue before.tells → IsTrue opened.tells
  opened_told tells = told before.tells opened.tells takes.tells tells

  pub closing_told : IsTrue before.tells → IsTrue closing.tells
  closing_told tells = told opened.tells closing.tells same (opened_told tells)

  pub tells_still : after.tells ≡ before.tells
  tells_still = puts.tells ∙ same ∙ takes.tells

  -- where it is put back each part is in its place that was
  pub places_around : IsTrue before.tells → KeepsPlaces before after
  places_around tells place here =
      place_again Schema Updates dir after (stands-not-out (part_in after dir Schema) taken.schema (puts.schema_back (closing_told tells)))
      (stands-not-out (part_in after dir Updates) now.log.disk (puts.updates_back (closing_told tells))) place
      (λ away. subst (λ (p : PartState). p ≢ out) (sym (puts.others (closing_told tells) place away))
      (places (opened_told tells) place (subst (λ (p : PartState). p ≢ out) (sym (takes.others place away)) here)))

  -- where the shelf told what it had, the log was whole
  pub whole_before : IsWhole taken.replica
  whole_before log_tells = (takes.updates (told taken.replica.log.disk.tells before.tells (sym takes.updates_tells) log_tells)).2.clean refl
