-- Predecessors by id and by position.
use Rattle.std.specs.Prelude.{◌≡◌, ℕ, List, Some}
use Rattle.std.specs.List.{AllZip}
use Rattle.update_model.specs.declared.update_id.UpdateId.{UpdateId}
use Rattle.update_model.specs.Entry.{Entry}
use Rattle.update_model.specs.Graph.{position_of}

-- The members with these ids stand, in order, at these positions.
abbrev pub ArePlaces : List Entry → List UpdateId → List ℕ → Type 0
ArePlaces graph ids places = AllZip (λ id place. position_of graph id ≡ Some place) ids places

-- There are as many lists of positions as members, and each one has, in order, the places of its member's predecessors.
abbrev pub AreNumbered : List Entry → List (List ℕ) → Type 0
AreNumbered graph positions = AllZip (λ e places. ArePlaces graph e.preds places) graph positions
