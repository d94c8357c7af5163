-- Which texts are queries, and the first fault of those that are none.
use Rattle.std.specs.Prelude.{◌≡◌, ℕ, ◌+◌, ◌<◌, ◌≤◌, Bool, true, false, nat_le, List, length, take, position, Option, Some, None, Result, Ok, Err, IsTrue, MatchOption, MatchBool, option_map, unwrap_or, slice_get, IsUtf8, ◌&&◌, if◌then◌else◌, ◌⊎◌, bytes_eq}
use Rattle.std.specs.Str.{is_utf8, IsValidUpTo}
use Rattle.expression_text.specs.declared.token.Token.{Token}
use Rattle.expression_text.specs.declared.token.Token.TheVariants as token
use Rattle.expression_text.specs.Columns.{column_in}
use Rattle.expression_text.specs.Grammar.{Parses, Disjunction}
use Rattle.row_check.specs.Kinds.{HasKinds}
use Rattle.row_check.specs.Trees.{Tree}
use Rattle.schema.specs.declared.table_def.TableDef.{TableDef}
use Rattle.schema.specs.Data.{SchemaData}
use Rattle.query.specs.declared.fault.QueryKind.{QueryKind}
use Rattle.query.specs.declared.fault.QueryKind.TheVariants as fault
use Rattle.query.specs.declared.item.Item.{Item}
use Rattle.query.specs.declared.item.Key.{Key}
use Rattle.query.specs.declared.limits.TheConstants.{MAX_QUERY_BYTES}
use Rattle.query.specs.declared.mark.Mark.{Mark}
use Rattle.query.specs.declared.mark.Mark.TheVariants as mark
use Rattle.query.specs.declared.parts.Part.TheVariants as part
use Rattle.query.specs.declared.stop.Spot.{Spot}
use Rattle.query.specs.declared.stop.Wrong.{Wrong}
use Rattle.query.specs.Columns.{kind_named, names_of, slots_of, seen_kinds, items_of, keys_of}
use Rattle.query.specs.Conditions.{IsCondition, stuck_at, wrong_in, is_unknown}
use Rattle.query.specs.Data.{ConditionData}
use Rattle.query.specs.Grammar.{wrong_at, mark_of, stop_of, place_of, columns_in, table_place, condition_place, condition_in, has_condition, keys_place, keys_in, limit_in}
use Rattle.query.specs.Pieces.{pieces_of, spot_after, start_spot}

-- a query: a table, columns of its rows, which rows, in which order, and how many
pub record QueryData : Type 0 where
  pub table : ℕ
  pub columns : List Item
  pub condition : Option ConditionData
  pub keys : List Key
  pub limit : Option ℕ

-- ---- conditions

-- what reading a condition comes to
abbrev pub ConditionRead : Type 0
ConditionRead = Result ConditionData Wrong

abbrev pub condition_data : ConditionData → ConditionRead
condition_data condition = Ok condition

-- An expression is a condition where it fits the kinds that it sees; else its types differ at its end.
abbrev pub IsTyped : List TableDef → ℕ → ℕ → List Token → Tree → ConditionRead → Type 0
IsTyped tables table at words tree read =
    (HasKinds (seen_kinds (slots_of tables table (names_of words))) tree × (read ≡ Ok (record { tree = tree; slots = slots_of tables table (names_of words) })))
    ⊎ ((¬ HasKinds (seen_kinds (slots_of tables table (names_of words))) tree) × (read ≡ Err (wrong_at fault.TypesDiffer (at + length words))))

-- What the words of an expression, which number from here, come to as a condition: they are at fault, or they are this
-- expression over the columns that they name.
abbrev pub ReadsCondition : List TableDef → ℕ → ℕ → List Token → ConditionRead → Type 0
ReadsCondition tables table at words read = MatchOption (wrong_in (kind_named tables table) at words)
    ((tree : Tree) × Parses (column_in (names_of words)) Disjunction words tree × IsTyped tables table at words tree read)
    (λ wrong. read ≡ Err wrong)

-- ---- the form of a query

-- The condition of a query, if it has one, is one.
abbrev pub HasGoodCondition : List Token → Type 0
HasGoodCondition words = IsTrue (has_condition words) → IsCondition (condition_in words)

-- whether words stop where no condition has begun yet
abbrev pub is_early : List Token → Option Wrong → Bool
is_early words None = false
is_early words (Some wrong) = nat_le wrong.at (place_of part.Where words)

-- What is wrong with the form of a query, from left to right: its words stop before its condition, its condition is none,
-- or its words stop behind that.
abbrev pub IsFormOf : List Token → Option Wrong → Type 0
IsFormOf words found =
    ((is_early words (stop_of words) ≡ true) × (found ≡ stop_of words))
    ⊎ (((is_early words (stop_of words) ≡ false) × (¬ HasGoodCondition words) × (found ≡ Some (stuck_at (condition_place words) (condition_in words))))
    ⊎ ((is_early words (stop_of words) ≡ false) × HasGoodCondition words × (found ≡ stop_of words)))

-- ---- the names of a query

-- the number of the table with this name
abbrev pub table_named : List TableDef → List ℕ → Option ℕ
table_named tables name = if is_utf8 name then position (λ table. bytes_eq table.name name) tables else None

abbrev pub table_by : List TableDef → Option Token → Option ℕ
table_by tables (Some (token.Column name)) = table_named tables name
table_by tables _ = None

-- the number of the table that a query names
abbrev pub table_in : List TableDef → List Token → Option ℕ
table_in tables words = table_by tables (slice_get words (table_place words))

abbrev pub is_name : Mark → Bool
is_name mark.Name = true
is_name _ = false

-- whether a word names a column that is not there
abbrev pub is_lost : List TableDef → ℕ → Token → Bool
is_lost tables table word = is_name (mark_of word) && is_unknown (kind_named tables table) word

-- the first of these words, which number from here, that names a column that is not there
abbrev pub lost_in : List TableDef → ℕ → ℕ → List Token → Option Wrong
lost_in tables table at words = option_map (λ i. wrong_at fault.UnknownColumn (at + i)) (position (is_lost tables table) words)

abbrev pub named_by : List TableDef → List Token → Option ℕ → Option Wrong
named_by tables words None = Some (wrong_at fault.UnknownTable (table_place words))
named_by tables words (Some table) = lost_in tables table 1 (columns_in words)

-- what is wrong before the condition is asked: the form, the table, or a column of the answer
abbrev pub head_by : List TableDef → List Token → Option Wrong → Option Wrong
head_by tables words (Some wrong) = Some wrong
head_by tables words None = named_by tables words (table_in tables words)

-- the number of the table
abbrev pub table_of : List TableDef → List Token → ℕ
table_of tables words = unwrap_or (table_in tables words) 0

abbrev pub optional : ConditionRead → Result (Option ConditionData) Wrong
optional (Ok condition) = Ok (Some condition)
optional (Err wrong) = Err wrong

-- What the condition of a query comes to, where it has one.
abbrev pub IsConditionOf : List TableDef → List Token → Result (Option ConditionData) Wrong → Type 0
IsConditionOf tables words found = MatchBool (has_condition words)
    ((read : ConditionRead) × ReadsCondition tables (table_of tables words) (condition_place words) (condition_in words) read × (found ≡ optional read))
    (found ≡ Ok None)

abbrev pub query_of : List TableDef → List Token → Option ConditionData → QueryData
query_of tables words condition = record {
  table = table_of tables words;
  columns = items_of tables (table_of tables words) (columns_in words);
  condition = condition;
  keys = keys_of tables (table_of tables words) (keys_in words);
  limit = limit_in words;
}

abbrev pub ends_by : List TableDef → List Token → Option ConditionData → Option Wrong → Result QueryData Wrong
ends_by tables words condition (Some wrong) = Err wrong
ends_by tables words condition None = Ok (query_of tables words condition)

-- behind the condition a key may still be at fault
abbrev pub tail_by : List TableDef → List Token → Result (Option ConditionData) Wrong → Result QueryData Wrong
tail_by tables words (Err wrong) = Err wrong
tail_by tables words (Ok condition) = ends_by tables words condition (lost_in tables (table_of tables words) (keys_place words) (keys_in words))

abbrev pub whole_by : List TableDef → List Token → Option Wrong → Result (Option ConditionData) Wrong → Result QueryData Wrong
whole_by tables words (Some wrong) found = Err wrong
whole_by tables words None found = tail_by tables words found

-- What the words of a text come to: a query, or what is wrong first.
pub record Say (tables : List TableDef) (words : List Token) (read : Result QueryData Wrong) : Type 0 where
  pub form : Option Wrong
  pub found : Result (Option ConditionData) Wrong
  pub is_form : IsFormOf words form
  pub is_condition : head_by tables words form ≡ None → IsConditionOf tables words found
  pub is : read ≡ whole_by tables words (head_by tables words form) found

-- ---- texts

-- the place of a word
abbrev pub spot_of : List Spot → ℕ → Spot
spot_of spots at = unwrap_or (slice_get spots at) start_spot

-- The text is this query.
pub record Reads (schema : SchemaData) (text : List ℕ) (query : QueryData) : Type 0 where
  pub few : length text ≤ MAX_QUERY_BYTES
  pub utf8 : IsUtf8 text
  pub says : Say schema.tables (pieces_of text).0 (Ok query)

-- A byte of the text is not UTF-8.
pub record IsBroken (text : List ℕ) (kind : QueryKind) (spot : Spot) : Type 0 where
  pub few : length text ≤ MAX_QUERY_BYTES
  pub front : ℕ
  pub longest : IsValidUpTo text front
  pub kind_is : kind ≡ fault.NotUtf8
  pub spot_is : spot ≡ spot_after 1 1 (take front text)

-- A word of the text is at fault.
pub record IsWrong (schema : SchemaData) (text : List ℕ) (kind : QueryKind) (spot : Spot) : Type 0 where
  pub few : length text ≤ MAX_QUERY_BYTES
  pub utf8 : IsUtf8 text
  pub wrong : Wrong
  pub says : Say schema.tables (pieces_of text).0 (Err wrong)
  pub kind_is : kind ≡ wrong.kind
  pub spot_is : spot ≡ spot_of (pieces_of text).1 wrong.at

-- The first fault of a text: it has too many bytes, which is at its first byte, or a byte that is not UTF-8, or a word of
-- it is at fault.
abbrev pub FirstFault : SchemaData → List ℕ → QueryKind → Spot → Type 0
FirstFault schema text kind spot =
    ((MAX_QUERY_BYTES < length text) × (kind ≡ fault.TooLong) × (spot ≡ start_spot))
    ⊎ (IsBroken text kind spot ⊎ IsWrong schema text kind spot)
