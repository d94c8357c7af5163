-- What a directory remembers of peers.
use Rattle.std.specs.Prelude.{◌≡◌, ℕ, List, [], ◌∷◌, IsTrue}
use Rattle.bec_disk.specs.declared.part.Part.TheVariants.{Schema, Updates, Peers}
use Rattle.bec_disk.specs.declared.part.Part.{Part}
use Rattle.bec_disk.specs.Shelf.{ShelfState}
use Rattle.update_model.specs.declared.update_id.UpdateId.{UpdateId}
use Rattle.peer_memory.specs.declared.peer.Peer.{Peer as PeerEntry}
use Rattle.peer_memory.specs.Payload.{Spells}
use Rattle.peer_memory.specs.Peers.{Remembers}
use Rattle.store_directory.specs.Memory.{remembered_in}
use Rattle.key_directory.specs.Parts.{KeepsAllBut, KeepsPlaces, part_in, reading}

-- what a directory remembers of peers
abbrev pub memory_in : ShelfState → List ℕ → List ℕ
memory_in shelf dir = remembered_in (reading (part_in shelf dir Peers))

-- What is remembered of peers is now this, with the heads of one more behind, as a payload.
pub record RemembersIn (peers : List PeerEntry) (node : List ℕ) (ids : List UpdateId) (memory : List ℕ) : Type 0 where
  pub peers_new : List PeerEntry
  pub remembers : Remembers peers node ids peers_new
  pub spelled : Spells peers_new memory

-- the parts of a directory that may be touched where its store meets another
abbrev pub touched : List Part
touched = Schema ∷ Updates ∷ Peers ∷ []

-- At most the part Peers of a directory is touched, and put back.
pub record KeepsPeers (dir : List ℕ) (before after : ShelfState) : Type 0 where
  pub tells : after.tells ≡ before.tells
  pub others : IsTrue before.tells → KeepsAllBut (Peers ∷ []) dir before after
  pub places : IsTrue before.tells → KeepsPlaces before after
