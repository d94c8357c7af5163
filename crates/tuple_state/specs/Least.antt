-- Rows of tables that keep the least row of each value: which groups they are in, and what goes before them.
use Rattle.std.specs.Prelude.{◌≡◌, ℕ, ◌+◌, ◌<◌, ◌≤◌, ◌==◌, Bool, true, false, ◌&&◌, ◌||◌, nat_lt, List, [], ◌∷◌, length, slice_get, slice_index_or, Option, Some, None, is_none, MatchOption}
use Rattle.std.specs.Ordering.{is_lt}
use Rattle.row_check.specs.declared.cmp.Cmp.TheVariants as cmp
use Rattle.row_check.specs.Comparisons.{compares}
use Rattle.row_check.specs.Meaning.{value_at}
use Rattle.table_model.specs.Counts.{one_where}
use Rattle.table_model.specs.Visible.{goes_before, kept_of, name_cmp}
use Rattle.tuple_state.specs.declared.inserted.Inserted.{Inserted}
use Rattle.tuple_state.specs.declared.links.Link.{Link}
use Rattle.tuple_state.specs.declared.shape.Shape.{Shape}
use Rattle.tuple_state.specs.Causes.{absent_times}
use Rattle.tuple_state.specs.State.{row_of, rules_over}

-- whether one of these rows, whose places number from here, passes a test
abbrev pub any_from : (ℕ → Inserted → Bool) → ℕ → List Inserted → Bool
any_from test place [] = false
any_from test place (it ∷ rows) = test place it || any_from test (place + 1) rows

-- whether a row of a free place goes before a row in the column of which its table keeps the least row, if any
abbrev pub is_passed_in : List Inserted → (ℕ → Bool) → Inserted → Option ℕ → Bool
is_passed_in rows free it None = false
is_passed_in rows free it (Some column) = any_from (λ place other. goes_before column (row_of it) (row_of other) && free place) 0 rows

abbrev pub is_passed : List Shape → List Inserted → (ℕ → Bool) → Inserted → Bool
is_passed shapes rows free it = is_passed_in rows free it (kept_of (rules_over shapes) it.entry.table)

-- 1 where this is so of the row at a place, and else 0
abbrev pub passed_by : List Shape → List Inserted → (ℕ → Bool) → Option Inserted → ℕ
passed_by shapes rows free None = 0
passed_by shapes rows free (Some it) = one_where (is_passed shapes rows free it)

-- whether a place has no cause but that a row goes before it, where it has so many of its own
abbrev pub is_free : (ℕ → ℕ) → List Link → List ℕ → ℕ → Bool
is_free base children causes place = (base place + absent_times children causes place) == 0

-- The count of each place is that of its own causes, of the absent rows that its row names, and 1 where a row of a free place goes
-- before it.
abbrev pub AreSettled : List Shape → List Inserted → List Link → (ℕ → ℕ) → List ℕ → Type 0
AreSettled shapes rows children base causes =
    (k : ℕ) → slice_index_or causes k 0 ≡ (base k + absent_times children causes k) + passed_by shapes rows (is_free base children causes) (slice_get rows k)

-- whether a row may rest on another one: that is of an earlier table, or of the same one where it keeps no least row
abbrev pub is_level : List Shape → Inserted → Inserted → Bool
is_level shapes it other =
    nat_lt other.entry.table it.entry.table || ((other.entry.table == it.entry.table) && is_none (kept_of (rules_over shapes) it.entry.table))

-- Each row is of one of the tables, and rests on the rows that lead to it.
pub record AreLevel (shapes : List Shape) (rows : List Inserted) (children : List Link) : Type 0 where
  pub known : (k : ℕ) (it : Inserted) → slice_get rows k ≡ Some it → it.entry.table < length shapes
  pub level : (n k : ℕ) (link : Link) (it other : Inserted) → slice_get children n ≡ Some link → link.number ≡ k → slice_get rows k ≡ Some it → slice_get rows link.place ≡ Some other
      → is_level shapes it other ≡ true

-- whether two rows have one value in a column
abbrev pub are_equal : ℕ → Inserted → Inserted → Bool
are_equal column a b = compares cmp.Eq (value_at a.entry.values column) (value_at b.entry.values column)

-- Two rows of one table that keeps the least row of each value are in one group exactly where they have one value, and rows of two
-- tables are in two. Groups number by places of rows, each by that of a row of its own.
pub record AreGrouped (shapes : List Shape) (rows : List Inserted) (groups : List ℕ) : Type 0 where
  pub inside : (k : ℕ) → k < length groups → slice_index_or groups k 0 ≤ k
  pub own : (k : ℕ) → k < length groups → slice_index_or groups (slice_index_or groups k 0) 0 ≡ slice_index_or groups k 0
  pub apart : (j k : ℕ) (a b : Inserted) → j < length groups → k < length groups → slice_get rows j ≡ Some a → slice_get rows k ≡ Some b → slice_index_or groups j 0 ≡ slice_index_or groups k 0
      → a.entry.table ≡ b.entry.table
  pub alike : (j k column : ℕ) (a b : Inserted) → j < k → k < length groups → slice_get rows j ≡ Some a → slice_get rows k ≡ Some b → a.entry.table ≡ b.entry.table
      → kept_of (rules_over shapes) b.entry.table ≡ Some column → (slice_index_or groups j 0 == slice_index_or groups k 0) ≡ are_equal column a b

-- whether the row at a place is of this table, and in this group, and its count is 0
abbrev pub is_standing : List ℕ → List ℕ → ℕ → ℕ → ℕ → Inserted → Bool
is_standing causes groups table group place it = ((it.entry.table == table) && (slice_index_or groups place 0 == group)) && (slice_index_or causes place 0 == 0)

-- none of the first so many rows stands in a group
abbrev pub NoneStands : List Inserted → (ℕ → Inserted → Bool) → ℕ → Type 0
NoneStands rows standing len = (k : ℕ) (it : Inserted) → k < len → slice_get rows k ≡ Some it → standing k it ≡ false

-- the row at this place stands in it, and none of the first so many rows that do has a lesser name
pub record IsFirst (rows : List Inserted) (standing : ℕ → Inserted → Bool) (len place : ℕ) : Type 0 where
  pub it : Inserted
  pub at : slice_get rows place ≡ Some it
  pub stands : standing place it ≡ true
  pub least : (k : ℕ) (other : Inserted) → k < len → slice_get rows k ≡ Some other → standing k other ≡ true → is_lt (name_cmp other.name it.name) ≡ false

-- Of the first so many rows the least one that stands in a group is known.
abbrev pub IsLeastOf : List Inserted → (ℕ → Inserted → Bool) → ℕ → Option ℕ → Type 0
IsLeastOf rows standing len found = MatchOption found (NoneStands rows standing len) (IsFirst rows standing len)

abbrev pub is_lesser_at : Inserted → Option Inserted → Bool
is_lesser_at it None = false
is_lesser_at it (Some other) = is_lt (name_cmp other.name it.name)

-- whether the row at a place has a lesser name
abbrev pub is_lesser : List Inserted → Inserted → Option ℕ → Bool
is_lesser rows it None = false
is_lesser rows it (Some place) = is_lesser_at it (slice_get rows place)

abbrev pub is_first_at : Inserted → Option Inserted → Bool
is_first_at it None = true
is_first_at it (Some other) = is_lt (name_cmp it.name other.name)

-- whether a row has a lesser name than the one at a place, if there is one
abbrev pub is_first : List Inserted → Inserted → Option ℕ → Bool
is_first rows it None = true
is_first rows it (Some place) = is_first_at it (slice_get rows place)

-- whether the row at a place is of this table
abbrev pub is_in : ℕ → Option Inserted → Bool
is_in table None = false
is_in table (Some it) = it.entry.table == table

-- whether the row at a place is of this table, and has a greater name than the least one of its group
abbrev pub is_behind : List Inserted → List ℕ → List (Option ℕ) → ℕ → ℕ → Option Inserted → Bool
is_behind rows groups least table place None = false
is_behind rows groups least table place (Some it) = (it.entry.table == table) && is_lesser rows it (slice_index_or least (slice_index_or groups place 0) None)

-- Of the first so many rows the least one is known of the group of each row of a table.
abbrev pub AreLeast : List Inserted → List ℕ → List ℕ → ℕ → ℕ → List (Option ℕ) → Type 0
AreLeast rows causes groups table len least = (k : ℕ) → is_in table (slice_get rows k) ≡ true
    → IsLeastOf rows (is_standing causes groups table (slice_index_or groups k 0)) len (slice_index_or least (slice_index_or groups k 0) None)
