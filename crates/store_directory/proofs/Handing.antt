-- The list of a store whose part is handed out and put back.
use Rattle.std.proofs.Common.{◌≡◌, inl, inr, ℕ, List, [], ◌++◌, refl, sym, ap, subst, IsTrue, Some, None, Option}
use Rattle.std.proofs.lemmas.List.{append-nil}
use Rattle.bec_bytes.specs.Framed.{stream_of}
use Rattle.bec_disk.specs.Disk.{DiskState, EveryImage, LeavesOnly, handed_out}
use Rattle.bec_disk.specs.Shelf.{PartState, moments_of, stands}
use Rattle.bec_disk.specs.Slot.{Slot}
use Rattle.bec_disk.proofs.Moments.{leaves_now, no_moment}
use Rattle.schema.specs.Data.{Meaning}
use Rattle.update_check.specs.Members.{AreMembers}
use Rattle.update_log.specs.Logset.{BeginsWith}
use Rattle.replica.specs.Opening.{KeepsStore}
use Rattle.key_directory.specs.Parts.{reading}
use Rattle.store_directory.specs.Stores.{KeepsList, ReadsAs, StoreData}
use Rattle.key_directory.proofs.Handing.{handed_since}

-- the members of a store that two parts read as are a closed list
pub members_of : (ask : Meaning) (schema updates : Option (List ℕ)) (store : StoreData) → ReadsAs ask schema updates store → AreMembers store.schema.rule store.members
members_of ask None updates store is = absurd is
members_of ask (Some schema) None store is = absurd is
members_of ask (Some schema) (Some updates) store is = is.1.taken

pub closed_still : (store : StoreData) → AreMembers store.schema.rule store.members → AreMembers store.schema.rule (store.members ++ [])
closed_still store are = subst (λ (l : List (List ℕ)). AreMembers store.schema.rule l) (sym (append-nil store.members)) are

-- the list of a part that was not touched
pub list_as_it_was : (ask : Meaning) (schema : Option (List ℕ)) (store : StoreData) (old new : PartState) → ReadsAs ask schema (reading old) store → new ≡ old → KeepsList store [] old new
list_as_it_was ask schema store old new is same = record {
  closed = closed_still store (members_of ask schema (reading old) store is);
  any_moment = no_moment (moments_of old) (moments_of new) (BeginsWith (stream_of store.members)) (ap moments_of same);
  from_now = inl (same, refl);
}

-- the list of a part that was handed out to be opened, and put back
pub list_after_opening : (ask : Meaning) (place : Slot) (schema part updates disk : DiskState) (store : StoreData) → updates ≡ handed_out place part → KeepsStore ask schema updates disk → IsTrue schema.tells
    → ReadsAs ask (Some schema.seen) (Some part.seen) store → KeepsList store [] (stands part) (stands disk)
list_after_opening ask place schema part updates disk store is keeps tells reads =
    let P = BeginsWith (stream_of store.members) in
    let leaves : LeavesOnly (handed_out place part) disk P =
    subst (λ (d : DiskState). LeavesOnly d disk P) is
    (keeps.any_moment tells store.node store.schema store.members reads.0 (λ _. subst (λ (d : DiskState). Rattle.update_log.specs.Logset.IsLogset store.schema.rule d.seen store.members) (sym is) reads.1)) in
    record {
      closed = closed_still store reads.1.taken;
      any_moment = handed_since place part disk P leaves;
      from_now = inr (subst (λ (l : List (List ℕ)). EveryImage disk.now (BeginsWith (stream_of l))) (sym (append-nil store.members)) (leaves_now (handed_out place part) disk P leaves refl));
    }
