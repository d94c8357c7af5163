-- Entries as JSON. A quote is the byte 34, a backslash is 92, and a comma is 44.
use Rattle.std.specs.Prelude.{ℕ, ◌||◌, ◌==◌, nat_lt, Bool, if◌then◌else◌, List, [], ◌∷◌, ◌++◌, drop, codes, Option, Some, None}
use Rattle.std.specs.Fmt.{decimal}
use Rattle.std.specs.List.{flat_map}
use Rattle.hex.specs.Hex.{encode_lower}
use Rattle.update_model.specs.declared.op.Op.{Op}
use Rattle.schema.specs.declared.table_def.TableDef.{TableDef}
use Rattle.table_text.specs.declared.name_style.NameStyle.TheVariants.{Full}
use Rattle.table_text.specs.Names.{id_text}
use Rattle.table_text.specs.Operations.{operation_text}
use Rattle.graph_drawing.specs.declared.placed.Placed.{Placed}
use Rattle.graph_drawing.specs.Words.{key_digits, reason_words}
use Rattle.log_texts.specs.declared.entry.Entry.{Entry}
use Rattle.log_texts.specs.Lines.{asked_ops}

-- what begins texts
unfoldable pub author_begin : List ℕ
author_begin = codes "\",\"author\":\""

unfoldable pub depth_begin : List ℕ
depth_begin = codes "\",\"depth\":"

unfoldable pub operations_begin : List ℕ
operations_begin = codes ",\"operations\":["

unfoldable pub updates_begin : List ℕ
updates_begin = codes "{\"updates\":["

-- One byte of a text: escaped where it is a quote or a backslash, and else as it is.
abbrev pub marked : ℕ → List ℕ
marked byte = if byte == 34 then 92 ∷ 34 ∷ [] else if byte == 92 then 92 ∷ 92 ∷ [] else byte ∷ []

-- One byte of a note: `\n`, `\t` or `\u00` and two digits where it is below 32 or 127, and else as in other texts.
abbrev pub note_marked : ℕ → List ℕ
note_marked byte =
    if byte == 10 then 92 ∷ 110 ∷ []
    else if byte == 9 then 92 ∷ 116 ∷ []
    else if nat_lt byte 32 || byte == 127 then codes "\\u00" ++ encode_lower (byte ∷ [])
    else marked byte

-- whether an update is a head
abbrev pub head_json : Bool → List ℕ
head_json head = if head then codes "true" else codes "false"

-- why an update does nothing, without the first six bytes `void: ` of these words
abbrev pub void_json : Option ℕ → List ℕ
void_json None = codes "null"
void_json (Some reason) = 34 ∷ (drop 6 (reason_words reason) ++ 34 ∷ [])

-- the member of a note
abbrev pub note_json : Option (List ℕ) → List ℕ
note_json None = []
note_json (Some text) = codes ",\"note\":\"" ++ (flat_map note_marked text ++ 34 ∷ [])

-- an operation, as it stands in a transaction, as a text
unfoldable pub operation_json : List TableDef → Op → List ℕ
operation_json tables op = 34 ∷ (flat_map marked (operation_text tables Full op) ++ 34 ∷ [])

-- the member of these operations
unfoldable pub list_json : List TableDef → Op → List Op → List ℕ
list_json tables op ops = operations_begin ++ (operation_json tables op ++ (flat_map (λ next. 44 ∷ operation_json tables next) ops ++ codes "]"))

-- the member of operations, where there are any
abbrev pub operations_json : List TableDef → List Op → List ℕ
operations_json tables [] = []
operations_json tables (op ∷ ops) = list_json tables op ops

-- the members that each entry has
unfoldable pub names_json : Placed → List ℕ
names_json placed = codes "{\"id\":\"" ++ (id_text placed.node.id ++ (author_begin ++ key_digits placed.node.author))

unfoldable pub front_json : Placed → List ℕ
front_json placed = names_json placed ++ (depth_begin ++ decimal placed.depth)

unfoldable pub marks_json : Entry → List ℕ
marks_json entry = codes ",\"head\":" ++ (head_json entry.head ++ (codes ",\"void\":" ++ void_json entry.reason))

-- an entry with this note and these operations
unfoldable pub entry_json : List TableDef → Option (List ℕ) → List Op → Entry → List ℕ
entry_json tables note ops entry = front_json entry.placed ++ (marks_json entry ++ (note_json note ++ (operations_json tables ops ++ codes "}")))

-- an entry with its note, and with its operations, where they are asked for
abbrev pub whole_json : Bool → List TableDef → Entry → List ℕ
whole_json rows tables entry = entry_json tables entry.note (asked_ops rows entry) entry

-- entries with commas between them
abbrev pub entries_json : Bool → List TableDef → List Entry → List ℕ
entries_json rows tables [] = []
entries_json rows tables (entry ∷ entries) = whole_json rows tables entry ++ flat_map (λ next. 44 ∷ whole_json rows tables next) entries

-- one object with these entries
unfoldable pub updates_json : Bool → List TableDef → List Entry → List ℕ
updates_json rows tables entries = updates_begin ++ (entries_json rows tables entries ++ codes "]}\n")

-- one object with one entry, with this note and these operations
unfoldable pub update_json : List TableDef → Option (List ℕ) → List Op → Entry → List ℕ
update_json tables note ops entry = updates_begin ++ (entry_json tables note ops entry ++ codes "]}\n")
