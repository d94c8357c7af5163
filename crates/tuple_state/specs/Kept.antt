-- What tables keep beside their state, so that look-ups are quick.
use Rattle.std.specs.Prelude.{◌≡◌, ℕ, ◌*◌, ◌≤◌, ◌==◌, Bool, true, not, ◌&&◌, ◌||◌, List, [], ◌∷◌, length, map, count_by, nat_lt, Option, Some, is_none}
use Rattle.std.specs.List.{list_any, list_all, position_from}
use Rattle.std.specs.BTreeMap.{get, BTreeMap}
use Rattle.update_model.specs.declared.row_name.RowName.{RowName}
use Rattle.update_model.specs.declared.limits.TheConstants.{MAX_MEMBERS}
use Rattle.table_model.specs.Tables.{name_cmp}
use Rattle.table_model.specs.Verdicts.{stands_among}
use Rattle.table_model.specs.Visible.{Rules, TableRow, cascade_refs, kept_of, refs, same_row}
use Rattle.tuple_state.specs.declared.dropped.Dropped.{Dropped}
use Rattle.tuple_state.specs.declared.groups.Groups.{Groups}
use Rattle.tuple_state.specs.declared.inserted.Inserted.{Inserted}
use Rattle.tuple_state.specs.declared.links.Link.{Link}
use Rattle.tuple_state.specs.Causes.{ends_from, parents_from}
use Rattle.tuple_state.specs.Grouped.{AreGroupsOf}
use Rattle.tuple_state.specs.Least.{AreSettled}
use Rattle.tuple_state.specs.Links.{Linked, is_of}
use Rattle.tuple_state.specs.State.{IsHeld, State, done_in, rules_of_state}

-- whether one of these rows has this name
abbrev pub is_named : List TableRow → RowName → Bool
is_named rows name = list_any (λ row. same_row row.name name) rows

-- whether each of these rows, newest first, has a name of its own and names by CASCADE only rows behind it
unfoldable pub are_layered : Rules → List TableRow → Bool
are_layered rules [] = true
are_layered rules (row ∷ older) =
    not (is_named older row.name) && list_all (λ r. is_named older r.name) (cascade_refs rules row) && are_layered rules older

-- whether each of these rows, newest first, names by CASCADE only rows behind it that are of earlier tables, or of its own where that
-- keeps no least row
abbrev pub are_grounded : Rules → List TableRow → Bool
are_grounded rules [] = true
are_grounded rules (row ∷ older) =
    list_all (λ r. list_any (λ x. same_row x.name r.name && (nat_lt x.table row.table || ((x.table == row.table) && is_none (kept_of rules row.table)))) older) (cascade_refs rules row)
    && are_grounded rules older

-- whether each reference of these rows names one of them, in the table that it is to
abbrev pub are_referred : Rules → List TableRow → Bool
are_referred rules rows = list_all (λ row. list_all (stands_among rows) (refs rules row)) rows

-- the place of the row with this name
abbrev pub place_of : List Inserted → RowName → Option ℕ
place_of rows name = position_from (λ row. same_row row.name name) 0 rows

-- links as pairs of a place and a number
abbrev pub pairs_of : List Link → List (Option ℕ × ℕ)
pairs_of links = map (λ (link : Link). (Some link.place, link.number)) links

-- names as pairs of the row's place and the number that comes with the name
abbrev pub deletes_at : (RowName → Option ℕ) → List Dropped → List (Option ℕ × ℕ)
deletes_at place dropped = map (λ (drop : Dropped). (place drop.name, drop.position)) dropped

-- The tables hold what some nodes do. The rows are layered and each is found by its name. By its place the updates that delete it
-- are found, the rows that name it by CASCADE, and those that it names. Its count is that of the updates, of the absent rows among
-- the latter, and 1 where a lesser candidate has its value in a column of which its table keeps the least row.
pub record IsKept (state : State) (places : BTreeMap RowName ℕ) (causes : List ℕ) (children deleters : Linked) (ends : List ℕ) (groups : Groups) : Type 0 where
  pub held : IsHeld state
  pub few : state.count ≤ MAX_MEMBERS
  pub bounded : (len : ℕ) → count_by (λ it. nat_lt it.position len) state.inserted ≤ 256 * len
  pub dated : list_all (λ it. nat_lt it.position state.count) state.inserted ≡ true
  pub layered : are_layered (rules_of_state state) (done_in state).inserted ≡ true
  pub placed : (name : RowName) → get name_cmp places name ≡ place_of state.inserted name
  pub each : length causes ≡ length state.inserted
  pub counted : AreSettled state.shapes state.inserted children.links (λ k. count_by (is_of k) deleters.links) causes
  pub grouped : AreGroupsOf state.shapes state.inserted groups
  pub homes : children.size ≡ length state.inserted
  pub named : pairs_of children.links ≡ deletes_at (place_of state.inserted) (parents_from (rules_of_state state) 0 state.inserted)
  pub ended : ends ≡ ends_from (rules_of_state state) 0 state.inserted
  pub rooms : deleters.size ≡ length state.inserted
  pub few_children : length children.links ≤ 536870912
  pub few_deleters : length deleters.links ≤ 536870912
  pub deleted : pairs_of deleters.links ≡ deletes_at (place_of state.inserted) state.dropped
