-- Heads of a graph with one more member, and graphs side by side.
use Rattle.std.specs.Prelude.{◌≡◌, ◌<◌, ◌+◌, ℕ, true, List, [], ◌∷◌, ◌++◌, Contains, length, take, slice_index_or}
use Rattle.update_model.specs.declared.update_id.UpdateId.{UpdateId}
use Rattle.update_model.specs.Entry.{Entry, same_id}
use Rattle.update_model.specs.Graph.{IsNext, IsClosed, AreHeads}

-- For each number of members from 1 on, these are the heads of the first so many.
pub record AreHeadsOfEach (graph : List Entry) (states : List (List UpdateId)) : Type 0 where
  pub long : length states ≡ length graph
  pub each : (n : ℕ) → n < length graph → AreHeads (take (n + 1) graph) (slice_index_or states n [])

-- Where the old states are those of a closed graph, and a member with this id and these predecessors may stand next, the
-- new states are those of the graph with it.
abbrev pub KeepsHeads : List (List UpdateId) → UpdateId → List UpdateId → List (List UpdateId) → Type 0
KeepsHeads old id preds new = (graph : List Entry) (bytes : List ℕ) → IsClosed graph → AreHeadsOfEach graph old
    → IsNext graph (record { id = id; preds = preds; bytes = bytes })
    → AreHeadsOfEach (graph ++ record { id = id; preds = preds; bytes = bytes } ∷ []) new

-- Members of the one and of the other with one id are one member.
abbrev pub NoCollision : List Entry → List Entry → Type 0
NoCollision graph other = (a b : Entry) → Contains graph a → Contains other b → same_id a.id b.id ≡ true → a ≡ b
