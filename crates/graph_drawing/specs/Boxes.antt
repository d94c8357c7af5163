-- Boxes of a picture: a row for each depth, and a column for one author. Where an author has several updates of one depth, they
-- stand beside each other, in a column each.
use Rattle.std.specs.Prelude.{ℕ, ◌+◌, ◌-◌, ◌==◌, ◌&&◌, Bool, cond, List, [], ◌∷◌, ◌++◌, length, drop, count_by, find, Option, option_map, unwrap_or}
use Rattle.std.specs.List.{fold, list_any}
use Rattle.update_model.specs.declared.author_key.AuthorKey.{AuthorKey}
use Rattle.update_model.specs.declared.update_id.UpdateId.{UpdateId}
use Rattle.update_model.specs.Entry.{same_id}
use Rattle.table_model.specs.declared.void_line.VoidLine.{VoidLine}
use Rattle.table_model.specs.Verdicts.{same_author}
use Rattle.graph_drawing.specs.declared.limits.TheConstants.{MAX_DRAWN}
use Rattle.graph_drawing.specs.declared.note_line.NoteLine.{NoteLine}
use Rattle.graph_drawing.specs.declared.placed.Placed.{Placed}
use Rattle.graph_drawing.specs.declared.spot.Spot.{Spot}
use Rattle.graph_drawing.specs.Told.{Told}

-- how many nodes are not drawn
abbrev pub omitted : List Placed → ℕ
omitted placed = length placed - MAX_DRAWN

-- the last ones in the order, which are drawn
abbrev pub drawn : List Placed → List Placed
drawn placed = drop (omitted placed) placed

-- whether the id is one of these heads
abbrev pub is_head : List UpdateId → UpdateId → Bool
is_head heads id = list_any (λ head. same_id head id) heads

-- the reason for which the update with this id does nothing
abbrev pub reason_of : List VoidLine → UpdateId → Option ℕ
reason_of voids id = option_map (λ line. line.reason) (find (λ line. same_id line.id id) voids)

-- the note of the update with this id
abbrev pub note_of : List NoteLine → UpdateId → Option (List ℕ)
note_of notes id = option_map (λ line. line.text) (find (λ line. same_id line.id id) notes)

-- whether a box is of this author and in this row
abbrev pub is_beside : Placed → Spot → Bool
is_beside placed spot = (spot.depth == placed.depth) && same_author spot.node.author placed.node.author

-- how many boxes of the author stand in the row already
abbrev pub lane_of : List Spot → Placed → ℕ
lane_of spots placed = count_by (is_beside placed) spots

-- whether a box stands in the column of this author and this lane
abbrev pub is_in_lane : AuthorKey → ℕ → Spot → Bool
is_in_lane author lane spot = (spot.lane == lane) && same_author spot.node.author author

-- The column of this author and this lane: that of a box there, or else a new one, after so many.
abbrev pub column_of : List Spot → ℕ → AuthorKey → ℕ → ℕ
column_of spots width author lane = unwrap_or (option_map (λ spot. spot.column) (find (is_in_lane author lane) spots)) width

-- the box of a node beside those that stand already
abbrev pub spot_of : Told → List Spot → ℕ → Placed → Spot
spot_of told spots width placed = record {
  depth = placed.depth;
  lane = lane_of spots placed;
  column = column_of spots width placed.node.author (lane_of spots placed);
  head = is_head told.heads placed.node.id;
  reason = reason_of told.voids placed.node.id;
  note = note_of told.notes placed.node.id;
  node = placed.node;
}

-- boxes, and how many columns they have
pub record Arranged : Type 0 where
  pub spots : List Spot
  pub width : ℕ

-- one more box
abbrev pub with_spot : Arranged → Spot → Arranged
with_spot before spot = record { spots = before.spots ++ spot ∷ []; width = cond (spot.column == before.width) (before.width + 1) before.width }

-- one more node
abbrev pub arrange : Told → Arranged → Placed → Arranged
arrange told before placed = with_spot before (spot_of told before.spots before.width placed)

-- the boxes of these nodes
abbrev pub arranged : Told → List Placed → Arranged
arranged told placed = fold (arrange told) (record { spots = []; width = 0 }) placed
