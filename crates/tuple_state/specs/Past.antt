-- The rows that are visible after the ancestors of one update, and what they answer.
use Rattle.std.specs.Prelude.{◌≡◌, ℕ, ◌<◌, ◌==◌, Bool, true, false, ◌&&◌, List, ◌∷◌, ◌++◌, count_by, filter, length, map, reverse, Option, Some, slice_get, slice_index_or}
use Rattle.std.specs.List.{position_from}
use Rattle.update_model.specs.declared.row_entry.RowEntry.{RowEntry}
use Rattle.update_model.specs.declared.row_name.RowName.{RowName}
use Rattle.update_model.specs.declared.value.Value.{Value}
use Rattle.update_model.specs.declared.limits.TheConstants.{MAX_MEMBERS}
use Rattle.update_model.specs.Node.{NodeData}
use Rattle.row_check.specs.Meaning.{value_at}
use Rattle.table_model.specs.declared.verdict.Verdict.{Verdict}
use Rattle.table_model.specs.Nodes.{IsNext}
use Rattle.table_model.specs.Verdicts.{ancestor_of, effects, in_table, judge_next, judged}
use Rattle.table_model.specs.Visible.{Effects, Rules, TableRow, is_visible, kept_of, visible_rows}
use Rattle.row_check.specs.declared.cmp.Cmp.TheVariants as cmp
use Rattle.row_check.specs.Comparisons.{compares}
use Rattle.table_model.specs.Answers.{entry_in, has_child_in}
use Rattle.tuple_state.specs.declared.inserted.Inserted.{Inserted}
use Rattle.tuple_state.specs.declared.known.Known.{Known}
use Rattle.tuple_state.specs.Parents.{passes_row}
use Rattle.tuple_state.specs.State.{IsStateOf, State, done_in, keep_any, row_of, rules_of_state}
use Rattle.tuple_state.specs.Values.{has_at}

-- This verdict is the one on an update that is next in tables of fewer than 131,072 updates.
pub record IsNextVerdict (state : State) (node : NodeData) (verdict : Verdict) : Type 0 where
  pub rules : Rules
  pub nodes : List NodeData
  pub is : IsStateOf rules nodes state
  pub next : IsNext nodes node
  pub few : length nodes < MAX_MEMBERS
  pub judged : verdict ≡ (judge_next rules (judged rules nodes) node).verdict

-- Of the positions of these nodes, the past holds those of the ancestors of the next one.
pub record IsPastOf (rules : Rules) (nodes : List NodeData) (node : NodeData) (past : ℕ → Bool) : Type 0 where
  pub next : IsNext nodes node
  pub exact : (newer : List NodeData) (member : NodeData) (older : List NodeData) → nodes ≡ newer ++ member ∷ older
      → past (length older) ≡ ancestor_of (judged rules nodes) node member.id

-- The past holds the positions of the ancestors of some next update.
pub record StandsAt (state : State) (past : ℕ → Bool) : Type 0 where
  pub rules : Rules
  pub nodes : List NodeData
  pub node : NodeData
  pub is : IsStateOf rules nodes state
  pub past_of : IsPastOf rules nodes node past

-- what those of these nodes did that are ancestors of one
abbrev pub effects_before : Rules → List NodeData → NodeData → Effects
effects_before rules nodes node = effects (filter (λ j. ancestor_of (judged rules nodes) node j.node.id) (judged rules nodes))

-- what the updates did whose positions the past holds
abbrev pub done_then : State → (ℕ → Bool) → Effects
done_then state past = record {
  inserted = reverse (map row_of (filter (λ it. past it.position) state.inserted));
  deleted = reverse (map (λ it. it.name) (filter (λ it. past it.position) state.dropped));
}

-- whether a row is visible after the ancestors of the update at a position
abbrev pub visible_at : (ℕ → ℕ → Bool) → State → ℕ → RowName → Bool
visible_at ancestor state position name = is_visible (rules_of_state state) (done_then state (λ p. ancestor p position)) name

-- the same of the row at a place
abbrev pub row_visible_at : (ℕ → ℕ → Bool) → State → ℕ → ℕ → Bool
row_visible_at ancestor state position place = passes_row (visible_at ancestor state position) (slice_get state.inserted place)

-- Where no table keeps the least row of each value, what is visible now is visible then, where an ancestor inserted it.
abbrev pub Lasts : (ℕ → ℕ → Bool) → State → ℕ → Type 0
Lasts ancestor state position = keep_any state.shapes ≡ false → (place : ℕ) (it : Inserted) → slice_get state.inserted place ≡ Some it → ancestor it.position position ≡ true
    → is_visible (rules_of_state state) (done_in state) it.name ≡ true → visible_at ancestor state position it.name ≡ true

-- Of each row this number is 0 where it is visible then.
abbrev pub AreCausesThen : (ℕ → ℕ → Bool) → State → ℕ → List ℕ → Type 0
AreCausesThen ancestor state position causes =
    (length causes ≡ length state.inserted)
    × ((place : ℕ) (it : Inserted) → slice_get state.inserted place ≡ Some it → (slice_index_or causes place 0 == 0) ≡ visible_at ancestor state position it.name)

-- the rows that are visible then
abbrev pub visible_then : State → (ℕ → Bool) → List TableRow
visible_then state past = visible_rows (rules_of_state state) (done_then state past)

-- the visible row with a name
abbrev pub row_then : State → (ℕ → Bool) → RowName → Option RowEntry
row_then state past name = entry_in (visible_then state past) name

-- whether a visible row names this one by RESTRICT
abbrev pub child_then : State → (ℕ → Bool) → RowName → Bool
child_then state past name = has_child_in (rules_of_state state) (visible_then state past) name

-- how many visible rows of a table have a value in a column
abbrev pub equal_then : State → (ℕ → Bool) → ℕ → ℕ → Value → ℕ
equal_then state past table column value =
    count_by (λ row. in_table table row && compares cmp.Eq (value_at row.values column) value) (visible_then state past)

-- how many visible rows a table has
abbrev pub count_then : State → (ℕ → Bool) → ℕ → ℕ
count_then state past table = count_by (in_table table) (visible_then state past)

-- Of the first row that has a value in a column of which its table keeps the least row of each, this number is how many visible rows
-- have it then.
abbrev pub AreShownThen : (ℕ → ℕ → Bool) → State → ℕ → List ℕ → Type 0
AreShownThen ancestor state moment shown =
    (length shown ≡ length state.inserted)
    × ((table column place : ℕ) (value : Value) → kept_of (rules_of_state state) table ≡ Some column → position_from (has_at table column value) 0 state.inserted ≡ Some place
    → slice_index_or shown place 0 ≡ equal_then state (λ p. ancestor p moment) table column value)

-- What is known of rows is so then.
pub record IsKnownThen (ancestor : ℕ → ℕ → Bool) (state : State) (moment : ℕ) (known : Known) : Type 0 where
  pub causes : AreCausesThen ancestor state moment known.causes.items
  pub shown : AreShownThen ancestor state moment known.shown.items

-- Where a table keeps the least row of each value, it is known.
abbrev pub AreKnownThen : (ℕ → ℕ → Bool) → State → ℕ → Known → Type 0
AreKnownThen ancestor state moment known = keep_any state.shapes ≡ true → IsKnownThen ancestor state moment known
