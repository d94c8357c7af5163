-- The order of the rows of an answer.
use Rattle.std.specs.Prelude.{ℕ, ◌+◌, Bool, true, false, List, [], ◌∷◌, unwrap_or}
use Rattle.std.specs.declared.cmp.Ordering.{Ordering}
use Rattle.std.specs.declared.cmp.Ordering.TheVariants.{Equal}
use Rattle.std.specs.Ordering.{nat_cmp, ordering_then}
use Rattle.update_model.specs.declared.value.Value.{Value}
use Rattle.update_model.specs.declared.value.Value.TheVariants.{Null, Int, Text, Flag, Row, Own}
use Rattle.row_check.specs.Comparisons.{order_of}
use Rattle.row_check.specs.Meaning.{value_at}
use Rattle.table_model.specs.declared.shown_row.ShownRow.{ShownRow}
use Rattle.table_model.specs.Tables.{name_cmp}
use Rattle.query.specs.declared.item.Key.{Key}
use Rattle.query_answer.specs.Values.{value_of}

-- which of two values of different kinds comes first: null before all others
abbrev pub rank_of : Value → ℕ
rank_of Null = 0
rank_of (Int n) = 1
rank_of (Text bytes) = 2
rank_of (Flag flag) = 3
rank_of (Row name) = 4
rank_of (Own index) = 5

-- null first, then as comparisons do, and names of rows by id and number
abbrev pub value_cmp : Value → Value → Ordering
value_cmp (Row a) (Row b) = name_cmp a b
value_cmp a b = unwrap_or (order_of a b) (nat_cmp (rank_of a) (rank_of b))

-- the order by one key: DESC turns all of it round
abbrev pub key_cmp : Bool → Value → Value → Ordering
key_cmp false a b = value_cmp a b
key_cmp true a b = value_cmp b a

-- by the values of one key after another
abbrev pub keys_cmp : List (List ShownRow) → List Key → ShownRow → ShownRow → Ordering
keys_cmp tables [] a b = Equal
keys_cmp tables (key ∷ keys) a b =
    ordering_then (key_cmp key.descending (value_of tables a key.source) (value_of tables b key.source)) (keys_cmp tables keys a b)

-- rows by the keys, and where these tie by their own names
abbrev pub row_cmp : List (List ShownRow) → List Key → ShownRow → ShownRow → Ordering
row_cmp tables keys a b = ordering_then (keys_cmp tables keys a b) (name_cmp a.name b.name)

-- ---- the same of values that were found once, from a place on

abbrev pub found_cmp : ℕ → List Key → List Value → List Value → Ordering
found_cmp at [] a b = Equal
found_cmp at (key ∷ keys) a b = ordering_then (key_cmp key.descending (value_at a at) (value_at b at)) (found_cmp (at + 1) keys a b)
