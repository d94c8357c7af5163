-- The part Peers of a lower key's directory, as it is read and written.
use Rattle.std.specs.Prelude.{◌≡◌, ◌≢◌, [], ◌∷◌, List, ℕ, IsTrue}
use Rattle.bec_disk.specs.Disk.{LeavesSince}
use Rattle.bec_disk.specs.Gated.{IsOldOrNew, gated_of}
use Rattle.bec_disk.specs.declared.gated.Gated.{Gated}
use Rattle.bec_disk.specs.declared.gated.Gated.TheVariants.{Whole}
use Rattle.bec_disk.specs.declared.part.Part.TheVariants.{Peers}
use Rattle.bec_disk.specs.Shelf.{ShelfState, moments_of, out}
use Rattle.key_directory.specs.Parts.{IsUntouched, KeepsAllBut, part_in, seen_in}

-- what stands behind the gate of the part Peers of a directory
abbrev pub peers_in : ShelfState → List ℕ → Gated
peers_in shelf dir = gated_of (seen_in (part_in shelf dir Peers))

-- The part was at most read, and every other part is as it was.
pub record ReadsPeers (before : ShelfState) (dir : List ℕ) (after : ShelfState) : Type 0 where
  pub tells : after.tells ≡ before.tells
  pub part : IsTrue before.tells → IsUntouched (part_in before dir Peers) (part_in after dir Peers)
  pub others : IsTrue before.tells → KeepsAllBut (Peers ∷ []) dir before after

-- The payload was to stand behind the gate of the part. A crash at any moment leaves it standing for what it stood for, or absent, or whole with
-- this payload. It is in its place, and every other part is as it was.
pub record WritesPeers (payload : List ℕ) (before : ShelfState) (dir : List ℕ) (after : ShelfState) : Type 0 where
  pub tells : after.tells ≡ before.tells
  pub any_moment : IsTrue before.tells → LeavesSince (moments_of (part_in before dir Peers)) (moments_of (part_in after dir Peers)) (IsOldOrNew (seen_in (part_in before dir Peers)) payload)
  pub in_place : IsTrue before.tells → part_in after dir Peers ≢ out
  pub others : IsTrue before.tells → KeepsAllBut (Peers ∷ []) dir before after

-- The part is whole with this payload.
abbrev pub HasPeers : List ℕ → ShelfState → List ℕ → Type 0
HasPeers payload shelf dir = peers_in shelf dir ≡ Whole payload
