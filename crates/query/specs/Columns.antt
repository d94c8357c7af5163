-- Columns of a table by their names, those of the rows that its references name included.
use Rattle.std.specs.Prelude.{ℕ, ◌+◌, ◌==◌, Bool, true, false, not, ◌&&◌, List, [], ◌∷◌, ◌++◌, map, take, drop, position, slice_get, Option, Some, None, option_and_then, option_map, option_to_list, if◌then◌else◌, codes, bytes_eq}
use Rattle.std.specs.List.{flat_map, list_any}
use Rattle.row_check.specs.declared.kind.Kind.{Kind}
use Rattle.row_check.specs.declared.kind.Kind.TheVariants as kind
use Rattle.expression_text.specs.declared.token.Token.{Token}
use Rattle.expression_text.specs.declared.token.Token.TheVariants as token
use Rattle.schema.specs.declared.column.Column.{Column}
use Rattle.schema.specs.declared.column.ColumnKind.{ColumnKind}
use Rattle.schema.specs.declared.column.ColumnKind.TheVariants as column
use Rattle.schema.specs.declared.table_def.TableDef.{TableDef}
use Rattle.schema.specs.Columns.{kind_seen, number_named}
use Rattle.schema.specs.Numbers.{table_number}
use Rattle.query.specs.declared.item.Item.{Item}
use Rattle.query.specs.declared.item.Key.{Key}
use Rattle.query.specs.declared.mark.Mark.{Mark}
use Rattle.query.specs.declared.mark.Mark.TheVariants as mark
use Rattle.query.specs.declared.source.Slot.{Slot}
use Rattle.query.specs.declared.source.Source.TheVariants as source
use Rattle.query.specs.Grammar.{mark_of}
use Rattle.query.specs.Pieces.{is_text}

-- the columns of the table with this number
abbrev pub columns_of : List TableDef → ℕ → List Column
columns_of tables number = (table_number tables number).columns

-- a column of the table itself
abbrev pub own_slot : List Column → List ℕ → Option Slot
own_slot columns name =
    option_and_then (λ n. option_map (λ column. record { source = source.Own n; kind = kind_seen column.kind }) (slice_get columns n)) (number_named columns name)

-- the table that a column refers to
abbrev pub target_in : ColumnKind → Option ℕ
target_in (column.Reference target act) = Some target
target_in _ = None

-- the reference with this name, and the table that it refers to
abbrev pub target_named : List Column → List ℕ → Option (ℕ × ℕ)
target_named columns name =
    option_and_then (λ n. option_and_then (λ column. option_map (λ target. (n, target)) (target_in column.kind)) (slice_get columns n)) (number_named columns name)

-- a column of the row that a reference names
abbrev pub far_slot : ℕ → ℕ → List Column → List ℕ → Option Slot
far_slot reference target columns name =
    option_and_then (λ n. option_map (λ column. record { source = source.Through reference target n; kind = kind_seen column.kind }) (slice_get columns n)) (number_named columns name)

abbrev pub through_slot : List TableDef → List Column → List ℕ → List ℕ → Option Slot
through_slot tables columns reference name =
    option_and_then (λ found. far_slot found.0 found.1 (columns_of tables found.1) name) (target_named columns reference)

abbrev pub is_dot : ℕ → Bool
is_dot byte = byte == 46

-- what stands before the first dot, and behind it
abbrev pub split_dot : List ℕ → Option (List ℕ × List ℕ)
split_dot name = option_map (λ dot. (take dot name, drop (dot + 1) name)) (position is_dot name)

abbrev pub slot_in : List TableDef → List Column → List ℕ → Option (List ℕ × List ℕ) → Option Slot
slot_in tables columns name None = own_slot columns name
slot_in tables columns name (Some parts) = through_slot tables columns parts.0 parts.1

-- the column that a word names: one of the table, or a reference, a dot, and a column of the table that it refers to
abbrev pub slot_of : List TableDef → ℕ → List ℕ → Option Slot
slot_of tables table name = if is_text name then slot_in tables (columns_of tables table) name (split_dot name) else None

-- the kind of the column that a word names
abbrev pub kind_named : List TableDef → ℕ → List ℕ → Option Kind
kind_named tables table name = option_map (λ slot. slot.kind) (slot_of tables table name)

-- ---- columns of an answer

abbrev pub row_item : Item
row_item = record { name = codes "ROW"; source = source.Name }

abbrev pub own_items : ℕ → List Column → List Item
own_items n [] = []
own_items n (c ∷ cs) = record { name = c.name; source = source.Own n } ∷ own_items (n + 1) cs

abbrev pub named_item : List ℕ → Option Slot → List Item
named_item name slot = option_to_list (option_map (λ slot. record { name = name; source = slot.source }) slot)

abbrev pub item_named : List TableDef → ℕ → Token → List Item
item_named tables table (token.Column name) = named_item name (slot_of tables table name)
item_named tables table _ = []

-- what a word of these columns asks for: `*` the name of the row and each column
abbrev pub items_by : List TableDef → ℕ → Token → Mark → List Item
items_by tables table word mark.Star = row_item ∷ own_items 0 (columns_of tables table)
items_by tables table word mark.Row = row_item ∷ []
items_by tables table word mark.Name = item_named tables table word
items_by tables table word _ = []

abbrev pub items_at : List TableDef → ℕ → Token → List Item
items_at tables table word = items_by tables table word (mark_of word)

abbrev pub items_of : List TableDef → ℕ → List Token → List Item
items_of tables table words = flat_map (items_at tables table) words

-- ---- keys

abbrev pub is_desc : Mark → Bool
is_desc mark.Desc = true
is_desc _ = false

-- whether DESC comes next
abbrev pub falls : List Token → Bool
falls [] = false
falls (word ∷ words) = is_desc (mark_of word)

abbrev pub key_of : Bool → Option Slot → List Key
key_of descending slot = option_to_list (option_map (λ slot. record { source = slot.source; descending = descending }) slot)

abbrev pub key_named : List TableDef → ℕ → Token → Bool → List Key
key_named tables table (token.Column name) descending = key_of descending (slot_of tables table name)
key_named tables table _ descending = []

abbrev pub keys_by : List TableDef → ℕ → Token → Mark → Bool → List Key
keys_by tables table word mark.Name descending = key_named tables table word descending
keys_by tables table word _ descending = []

abbrev pub keys_of : List TableDef → ℕ → List Token → List Key
keys_of tables table [] = []
keys_of tables table (word ∷ words) = keys_by tables table word (mark_of word) (falls words) ++ keys_of tables table words

-- ---- what a condition sees

-- whether a name is one of these
abbrev pub is_among : List (List ℕ) → List ℕ → Bool
is_among names name = list_any (bytes_eq name) names

-- these names and, if it is new, the one that a word names
abbrev pub with_name : List (List ℕ) → Token → List (List ℕ)
with_name names (token.Column name) = if is_text name && not (is_among names name) then names ++ name ∷ [] else names
with_name names _ = names

abbrev pub with_names : List (List ℕ) → List Token → List (List ℕ)
with_names names [] = names
with_names names (word ∷ words) = with_names (with_name names word) words

-- the columns that a condition names, each once, in the order in which they are first named
abbrev pub names_of : List Token → List (List ℕ)
names_of words = with_names [] words

abbrev pub slots_at : List TableDef → ℕ → List ℕ → List Slot
slots_at tables table name = option_to_list (slot_of tables table name)

-- what these columns are, in the same order
abbrev pub slots_of : List TableDef → ℕ → List (List ℕ) → List Slot
slots_of tables table names = flat_map (slots_at tables table) names

-- The kind that a condition sees of a column: of a reference it sees whether it is there, which is a flag that is true or
-- null.
abbrev pub seen_kind : Kind → Kind
seen_kind kind.Reference = kind.Flag
seen_kind kind = kind

abbrev pub seen_kinds : List Slot → List Kind
seen_kinds slots = map (λ slot. seen_kind slot.kind) slots
