-- A graph member by member, in the order of arrival.
use Rattle.std.specs.Prelude.{◌≡◌, ℕ, List, [], ◌∷◌, ◌++◌, map, reverse, slice_get, take, Option, Some}
use Rattle.std.specs.List.{filter_map}
use Rattle.update_model.specs.declared.update_id.UpdateId.{UpdateId}
use Rattle.update_model.specs.Graph.{position_of}
use Rattle.update_model.specs.Node.{NodeData}
use Rattle.update_codec.specs.Parts.{entry_of}
use Rattle.update_check.specs.Signed.{node_of}
use Rattle.table_model.specs.declared.verdict.Verdict.{Verdict}
use Rattle.table_model.specs.Verdicts.{judge_next, judged}
use Rattle.table_model.specs.Visible.{Rules}

-- the nodes of the first so many members, newest first
abbrev pub nodes_before : List (List ℕ) → ℕ → List NodeData
nodes_before graph count = reverse (map node_of (take count graph))

-- the position of the member with this id
abbrev pub place_in : List (List ℕ) → UpdateId → Option ℕ
place_in graph id = position_of (map entry_of graph) id

-- for each of these nodes, oldest first, the positions of its predecessors
unfoldable pub places_of : (UpdateId → Option ℕ) → List NodeData → List (List ℕ)
places_of place [] = []
places_of place (node ∷ older) = places_of place older ++ filter_map place node.preds ∷ []

-- the same for the first so many members
abbrev pub places_before : List (List ℕ) → ℕ → List (List ℕ)
places_before graph count = places_of (place_in graph) (nodes_before graph count)

-- The verdict is the one on the member at this position, judged on its ancestors.
abbrev pub IsVerdictAt : Rules → List (List ℕ) → ℕ → Verdict → Type 0
IsVerdictAt rules graph position verdict = (bytes : List ℕ) → slice_get graph position ≡ Some bytes
    → verdict ≡ (judge_next rules (judged rules (nodes_before graph position)) (node_of bytes)).verdict
