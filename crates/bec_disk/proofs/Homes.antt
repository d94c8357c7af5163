-- Shelves on which no part is handed out.
use Rattle.std.proofs.Common.{◌≡◌, ◌≢◌, ⊎_elim, ℕ, Bool, true, false, refl, sym, ◌∙◌, ap, subst, Some, None, Option, Ok, Err, Result, OnErr, OnOk}
use Rattle.std.specs.Prelude.{IsTrue}
use Rattle.bec_disk.specs.Disk.{DiskState, made_part}
use Rattle.bec_disk.specs.Left.{IsDiskLeft, IsPartLeft}
use Rattle.bec_disk.specs.Replay.{MemDiskState, state_of}
use Rattle.bec_disk.specs.Shelf.{PartState, ShelfState, absent, out, stands, HandsOut, KeepsOthers, Makes, PutsBack}
use Rattle.bec_disk.specs.Shelved.{part_of, standing}
use Rattle.bec_disk.specs.Slot.{Slot, same_slot}
use Rattle.bec_disk.specs.declared.disk_fault.DiskFault.{DiskFault}
use Rattle.bec_disk.specs.declared.shelved.Shelved.{Shelved}
use Rattle.bec_disk.proofs.Shelves.{same_slot-eq}

is_out : PartState → Type 0
is_out absent = ⊥
is_out out = Unit {0}
is_out (stands part) = ⊥

-- a part that stands in its place is not out
not_out : (place : PartState) (part : DiskState) → place ≡ stands part → place ≢ out
unfolding is_out
not_out place part here e = subst is_out (sym e ∙ here) (tt {0})

-- one part may have come to another state that is not out
pub home_but : (old new : ShelfState) (place : Slot) → new.parts place ≢ out → KeepsOthers old place new → ((other : Slot) → same_slot place other ≡ false → old.parts other ≢ out) → (other : Slot) → new.parts other ≢ out
home_but old new place here kept home other = by (same_slot place other) refl
  where
    by : (b : Bool) → same_slot place other ≡ b → new.parts other ≢ out
    by true e = subst (λ (p : Slot). new.parts p ≢ out) (same_slot-eq place other e) here
    by false e = subst (λ (part : PartState). part ≢ out) (sym (kept other e)) (home other e)

-- A part was handed out, and put back: where no part was out before, none is then.
pub home_again : (old mid new : ShelfState) (place : Slot) (disk : DiskState) → KeepsOthers old place mid → PutsBack mid place disk new → IsTrue mid.tells → ((other : Slot) → old.parts other ≢ out) → (other : Slot) → new.parts other ≢ out
home_again old mid new place disk kept put tells home =
    home_but mid new place (not_out (new.parts place) disk (put.part tells)) put.others (λ other away. subst (λ (part : PartState). part ≢ out) (sym (kept other away)) (home other))

-- what a crash leaves of a part that was not out is not out
pub home_left : (choice : ℕ) (old new : Option Shelved) → IsPartLeft choice old new → part_of old ≢ out → part_of new ≢ out
home_left choice None new left home = subst (λ (found : Option Shelved). part_of found ≢ out) (sym left) home
home_left choice (Some entry) None left home = absurd left
home_left choice (Some entry) (Some other) left home = by entry.disk other.disk left.disk home
  where
    by : (old new : Option MemDiskState) → IsDiskLeft choice old new → standing old ≢ out → standing new ≢ out
    by None new is home = absurd (home refl)
    by (Some old) None is home = absurd is
    by (Some old) (Some new) is home = not_out (stands (state_of new)) (state_of new) refl

-- a search that handed a part out
pub finds_of : (old new : ShelfState) (place : Slot) (disk : MemDiskState) → IsTrue old.tells → HandsOut old place (state_of disk) new → disk.slot ≡ Some place
finds_of old new place disk tells hands = let part = hands.part tells in ap (λ (s : DiskState). s.slot) part.2

-- the making of a part
pub makes_home : (old new : ShelfState) (place : Slot) (result : Result MemDiskState DiskFault) → Makes state_of old place result new → ((other : Slot) → old.parts other ≢ out) → OnErr result ((other : Slot) → new.parts other ≢ out)
makes_home old new place (Ok disk) makes home = tt {0}
makes_home old new place (Err fault) makes home =
    home_but old new place (⊎_elim (λ same. subst (λ (part : PartState). part ≢ out) (sym same) (home place)) (λ made. not_out (new.parts place) (made_part place) made) makes.part) makes.others (λ other away. home other)

pub makes_others : (old new : ShelfState) (place : Slot) (result : Result MemDiskState DiskFault) → Makes state_of old place result new → OnOk result (KeepsOthers old place new)
makes_others old new place (Ok disk) makes = makes.others
makes_others old new place (Err fault) makes = tt {0}
