-- Answers of queries.
use Rattle.std.specs.Prelude.{◌≡◌, ℕ, Bool, List, length, map, take, filter, slice_get, Option, Some, None}
use Rattle.std.specs.Ordering.{ordering_then}
use Rattle.std.specs.declared.cmp.Ordering.{Ordering}
use Rattle.std.specs.List.Sorted.{IsPermutation, IsSorted}
use Rattle.update_model.specs.declared.value.Value.{Value}
use Rattle.table_model.specs.declared.shown_row.ShownRow.{ShownRow}
use Rattle.update_model.specs.Node.{NodeData}
use Rattle.table_model.specs.Tables.{AreRowsIn, name_cmp}
use Rattle.table_model.specs.Visible.{Rules}
use Rattle.query.specs.declared.item.Item.{Item}
use Rattle.query.specs.declared.item.Key.{Key}
use Rattle.query.specs.Queries.{QueryData}
use Rattle.query_answer.specs.declared.answer_value.Answer.{Answer}
use Rattle.query_answer.specs.declared.line.Line.{Line}
use Rattle.query_answer.specs.Order.{row_cmp, found_cmp}
use Rattle.query_answer.specs.Rows.{shown_row, told}
use Rattle.query_answer.specs.Values.{rows_in, value_of, is_asked}

-- an answer: the names of its columns, and its rows
pub record AnswerData : Type 0 where
  pub columns : List (List ℕ)
  pub rows : List (List Value)

-- an answer as contracts see it
abbrev pub data_of : Answer → AnswerData
data_of answer = record { columns = answer.columns.items; rows = answer.rows.items }

-- not more rows than this
abbrev pub limited : {X : Type 0} → Option ℕ → List X → List X
limited None rows = rows
limited (Some limit) rows = take limit rows

-- what a row has in these columns
abbrev pub picked : List (List ShownRow) → List Item → ShownRow → List Value
picked tables items row = map (λ item. value_of tables row item.source) items

-- The answer of a query over tables, where native checks mean this relation: the rows that are asked for, in order, no more
-- than the limit, and of each the columns that are asked for.
pub record IsAnswer (relation : ℕ → List Value → Bool) (tables : List (List ShownRow)) (query : QueryData) (answer : AnswerData) : Type 0 where
  pub rows : List ShownRow
  pub exact : IsPermutation rows (filter (is_asked relation tables query.condition) (rows_in tables query.table))
  pub ordered : IsSorted (row_cmp tables query.keys) rows
  pub columns : answer.columns ≡ map (λ item. item.name) query.columns
  pub values : answer.rows ≡ map (picked tables query.columns) (limited query.limit rows)

-- ---- tables of updates

-- These are the rows that a closed list shows in so many tables.
pub record AreShown (rules : Rules) (nodes : List NodeData) (count : ℕ) (tables : List (List ShownRow)) : Type 0 where
  pub number : length tables ≡ count
  pub rows : (number : ℕ) (rows : List ShownRow) → slice_get tables number ≡ Some rows → AreRowsIn rules nodes number rows

-- The answer of a query over what a closed list shows.
pub record IsAnswerOver (rules : Rules) (nodes : List NodeData) (query : QueryData) (answer : AnswerData) : Type 0 where
  pub tables : List (List ShownRow)
  pub shown : AreShown rules nodes (length rules.tables) tables
  pub is : IsAnswer rules.ask tables query answer

-- ---- rows with the values of their keys

abbrev pub keys_of : List (List ShownRow) → List Key → ShownRow → List Value
keys_of tables keys row = map (λ key. value_of tables row key.source) keys

-- a row, and the values that were found
abbrev pub LineData : Type 0
LineData = ShownRow × List Value

abbrev pub line_data : Line → LineData
line_data line = (shown_row line.row, map told line.keys.items)

-- a row, and the values of its keys
abbrev pub keyed : List (List ShownRow) → List Key → ShownRow → LineData
keyed tables keys row = (row, keys_of tables keys row)

-- by the values, and where these tie by the rows' own names
abbrev pub data_cmp : List Key → LineData → LineData → Ordering
data_cmp keys a b = ordering_then (found_cmp 0 keys a.1 b.1) (name_cmp a.0.name b.0.name)

abbrev pub line_cmp : List Key → Line → Line → Ordering
line_cmp keys a b = data_cmp keys (line_data a) (line_data b)
