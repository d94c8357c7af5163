-- What an end remembers of the other as it begins.
use Rattle.std.specs.Prelude.{ℕ, List, [], ◌∷◌, Option, None, Some}
use Rattle.update_model.specs.declared.update_id.UpdateId.{UpdateId}
use Rattle.session_rules.specs.State.{FrameData, Hello, OtherVersion, Item, BadItem, Turn, NoFrame}
use Rattle.session_rules.specs.declared.role.Role.{Role}
use Rattle.session_rules.specs.declared.role.Role.TheVariants.{Initiator, Responder}
use Rattle.peer_memory.specs.declared.peer.Peer.{Peer}
use Rattle.peer_memory.specs.Peers.{heads_under}

-- the ids that are remembered of the node of a first Hello, and of none where another frame comes first
abbrev pub heads_for : List Peer → List FrameData → List UpdateId
heads_for peers [] = []
heads_for peers (Hello hello ∷ heard) = heads_under peers hello.node
heads_for peers (OtherVersion ∷ heard) = []
heads_for peers (Item e ∷ heard) = []
heads_for peers (BadItem why ∷ heard) = []
heads_for peers (Turn turn ∷ heard) = []
heads_for peers (NoFrame place ∷ heard) = []

-- The ids that an end remembers of the other as it begins: an initiator those under this name, and a responder those under the node of the other's Hello,
-- which comes first.
abbrev pub recalled : Role → List Peer → Option (List ℕ) → List FrameData → List UpdateId
recalled Initiator peers None heard = []
recalled Initiator peers (Some name) heard = heads_under peers name
recalled Responder peers name heard = heads_for peers heard
