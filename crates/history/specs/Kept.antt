-- What is kept beside the members of a history.
use Rattle.std.specs.Prelude.{◌≡◌, ◌≤◌, ℕ, List, length, map, take}
use Rattle.update_model.specs.Graph.{IsClosed}
use Rattle.update_codec.specs.Parts.{entry_of}
use Rattle.head_set.specs.Grown.{AreHeadsOfEach}
use Rattle.schema.specs.Data.{Meaning, SchemaData}
use Rattle.table_model.specs.Visible.{rules_with}
use Rattle.tuple_state.specs.State.{IsStateOf}
use Rattle.history.specs.Arrivals.{nodes_before, places_before}
use Rattle.history.specs.declared.views.Views.{Views}
use Rattle.history.specs.Histories.{IsHistory}

-- Of the first so many members these are the heads after each, the positions of each one's predecessors, and what the valid
-- ones did.
pub record AreViewsOf (ask : Meaning) (schema : SchemaData) (members : List (List ℕ)) (count : ℕ) (views : Views) : Type 0 where
  pub heads : AreHeadsOfEach (map entry_of (take count members)) views.heads
  pub places : views.ancestry ≡ places_before members count
  pub state : IsStateOf (rules_with ask schema.tables) (nodes_before members count) views.tables

-- The views are those of members of a closed list, of which there are at least so many.
pub record IsCut (views : Views) (len : ℕ) : Type 0 where
  pub ask : Meaning
  pub schema : SchemaData
  pub members : List (List ℕ)
  pub count : ℕ
  pub closed : IsClosed (map entry_of members)
  pub low : len ≤ count
  pub within : count ≤ length members
  pub are : AreViewsOf ask schema members count views

-- A history, and the views of all its members.
pub record IsKept (ask : Meaning) (schema : SchemaData) (members : List (List ℕ)) (views : Views) : Type 0 where
  pub is : IsHistory (record { schema = schema; members = members })
  pub are : AreViewsOf ask schema members (length members) views
