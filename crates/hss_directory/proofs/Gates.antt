-- The part Peers of a directory, handed out, read or written, and put back.
use Rattle.std.proofs.Common.{◌≡◌, ◌≢◌, inl, inr, ℕ, List, [], ◌∷◌, refl, ◌∙◌, ap, IsTrue}
use Rattle.bec_disk.specs.declared.part.Part.TheVariants.{Peers}
use Rattle.bec_disk.specs.Disk.{DiskState, IsSameDisk, IsSettled, LeavesOnly, LeavesSince}
use Rattle.bec_disk.specs.Gated.{IsOldOrNew}
use Rattle.bec_disk.specs.Shelf.{HandsOut, PartState, ShelfState, moments_of, out, stands}
use Rattle.bec_disk.specs.Slot.{Slot, same_slot, slot}
use Rattle.bec_disk.proofs.Images.{settled_image}
use Rattle.bec_disk.proofs.Moments.{no_moment, stays}
use Rattle.key_directory.specs.Parts.{HandsOutAny, IsLeftAlone, KeepsAllBut, MayMakeAny, part_in, seen_in}
use Rattle.key_directory.proofs.Making.{gated_since, handed_settled, handed_slot, made_others, read_others, read_untouched}
use Rattle.key_directory.proofs.Places.{stands-not-out}
use Rattle.key_directory.proofs.Putting.{PutsAny, told}
use Rattle.hss_directory.specs.Peers.{ReadsPeers, WritesPeers}
use Rattle.hss_directory.proofs.Places.{false_of, in_by}

pub peers_read : (before mid after : ShelfState) (dir : List ℕ) (found disk : DiskState) → HandsOut before (slot dir Peers) found mid → disk ≡ found → after.tells ≡ mid.tells → PutsAny mid disk after → ReadsPeers before dir after
peers_read before mid after dir found disk hands same tells puts = record {
  tells = tells ∙ hands.tells;
  part = read_untouched before mid after dir Peers found disk hands same puts;
  others = read_others before mid after dir Peers found disk hands same puts;
}

alone_since : (place : Slot) (old new : PartState) (payload : List ℕ) → IsLeftAlone place old new → LeavesSince (moments_of old) (moments_of new) (IsOldOrNew (seen_in old) payload)
alone_since place old new payload (inl same) = no_moment (moments_of old) (moments_of new) (IsOldOrNew (seen_in old) payload) (ap moments_of same)
alone_since place old new payload (inr put) =
    gated_since place old new put.0 put.0 payload put.2 put.1
    (stays put.0 put.0 (IsOldOrNew put.0.seen payload) refl (λ tells. settled_image put.0 (IsOldOrNew put.0.seen payload) (handed_settled place old put.0 put.2) (inr (inr refl))))

alone_in : (place : Slot) (old new : PartState) → IsLeftAlone place old new → old ≢ out → new ≢ out
alone_in place old new (inl same) not_out = in_by old new same not_out
alone_in place old new (inr put) not_out = stands-not-out new put.0 put.1

peers_only : (before after : ShelfState) (dir : List ℕ) → MayMakeAny before (slot dir Peers) after → KeepsAllBut (Peers ∷ []) dir before after
peers_only before after dir may other away = may.others other (false_of (same_slot (slot dir Peers) other) away)

-- Where it was not handed out.
pub peers_unmade : (payload : List ℕ) (before after : ShelfState) (dir : List ℕ) → (IsTrue before.tells → part_in before dir Peers ≢ out) → MayMakeAny before (slot dir Peers) after → WritesPeers payload before dir after
peers_unmade payload before after dir in_place may = record {
  tells = may.tells;
  any_moment = λ tells. alone_since (slot dir Peers) (part_in before dir Peers) (part_in after dir Peers) payload (may.part tells);
  in_place = λ tells. alone_in (slot dir Peers) (part_in before dir Peers) (part_in after dir Peers) (may.part tells) (in_place tells);
  others = λ tells. peers_only before after dir may;
}

-- Where it was, and was written.
pub peers_written : (payload : List ℕ) (before mid after : ShelfState) (dir : List ℕ) (found disk : DiskState) → HandsOutAny before (slot dir Peers) found mid → ((IsTrue found.tells → IsSettled found) → LeavesOnly found disk (IsOldOrNew found.seen payload))
    → IsSameDisk found disk → after.tells ≡ mid.tells → PutsAny mid disk after → WritesPeers payload before dir after
peers_written payload before mid after dir found disk hands leaves same t puts = record {
  tells = t ∙ hands.tells;
  any_moment = λ tells. gated_since (slot dir Peers) (part_in before dir Peers) (part_in after dir Peers) found disk payload (hands.part tells) (back tells)
      (leaves (λ _. handed_settled (slot dir Peers) (part_in before dir Peers) found (hands.part tells)));
  in_place = λ tells. stands-not-out (part_in after dir Peers) disk (back tells);
  others = made_others before mid after dir Peers found disk hands same puts;
}
  where
    back : IsTrue before.tells → part_in after dir Peers ≡ stands disk
    back tells = (puts (slot dir Peers) (same.slot ∙ handed_slot (slot dir Peers) (part_in before dir Peers) found (hands.part tells))).part (told before.tells mid.tells hands.tells tells)
