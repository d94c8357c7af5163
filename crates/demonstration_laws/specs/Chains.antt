-- The updates of each author of a demonstration, as tables see them.
use Rattle.std.specs.Prelude.{◌≡◌, ℕ, ◌+◌, ◌-◌, ◌*◌, ◌/◌, ◌<◌, List, [], ◌∷◌, ◌++◌, length, Option, Some, None, slice_index_or}
use Rattle.std.specs.List.{AllByRecursion}
use Rattle.std.specs.List.Sorted.{IsPermutation}
use Rattle.update_model.specs.declared.update_id.UpdateId.{UpdateId}
use Rattle.update_model.specs.Node.{NodeData}
use Rattle.table_model.specs.declared.verdict.Verdict.TheVariants.{Valid}
use Rattle.table_model.specs.Verdicts.{effects_of, joined, judged, nothing}
use Rattle.table_model.specs.Visible.{Effects, Rules}
use Rattle.demonstration_laws.specs.Plans.{AreOpsOf}

-- the id of the newest of an author's updates, which are newest first
abbrev pub last_id : List NodeData → Option UpdateId
last_id [] = None
last_id (node ∷ older) = Some node.id

-- Newest first, these are the updates of the author at a place: each does what the one with its number does, where the one before it has its id.
unfoldable pub IsChain : ℕ → List NodeData → Type 0
IsChain author [] = Unit {0}
IsChain author (node ∷ older) = AreOpsOf author (length older) (last_id older) node.ops × IsChain author older

-- all updates of four authors
abbrev pub all_of : List (List NodeData) → List NodeData
all_of [] = []
all_of (chain ∷ chains) = chain ++ all_of chains

-- The list has exactly the updates of four authors.
pub record ArePlanned (chains : List (List NodeData)) (nodes : List NodeData) : Type 0 where
  pub four : length chains ≡ 4
  pub each : (author : ℕ) → author < 4 → IsChain author (slice_index_or chains author [])
  pub same : IsPermutation nodes (all_of chains)

-- each update of the list is valid
abbrev pub AreValid : Rules → List NodeData → Type 0
AreValid rules nodes = AllByRecursion (λ j. j.verdict ≡ Valid) (judged rules nodes)

-- what updates do that are all valid
abbrev pub did_by : List NodeData → Effects
did_by [] = nothing
did_by (node ∷ older) = joined (effects_of node) (did_by older)

-- how many lists are left of so many updates of an author: of each five, four insert one and the fifth deletes one
abbrev pub lists_left : ℕ → ℕ
lists_left count = count - 2 * (count / 5)

abbrev pub all_lists_left : List (List NodeData) → ℕ
all_lists_left [] = 0
all_lists_left (chain ∷ chains) = lists_left (length chain) + all_lists_left chains
