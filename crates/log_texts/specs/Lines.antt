-- The lines of an entry: one of the update; behind it one of its note, where it has one; and behind these, where they are asked for, what the update does. A blank
-- is the byte 32. Ids and keys are written whole, or cut.
use Rattle.std.specs.Prelude.{ℕ, Bool, cond, if◌then◌else◌, List, [], ◌∷◌, ◌++◌, codes, Option, Some, None}
use Rattle.std.specs.Fmt.{decimal}
use Rattle.std.specs.List.{flat_map}
use Rattle.update_model.specs.declared.author_key.AuthorKey.{AuthorKey}
use Rattle.update_model.specs.declared.op.Op.{Op}
use Rattle.update_model.specs.declared.update_id.UpdateId.{UpdateId}
use Rattle.text_words.specs.Printing.{quoted}
use Rattle.schema.specs.declared.table_def.TableDef.{TableDef}
use Rattle.table_text.specs.declared.name_style.NameStyle.TheVariants.{Full}
use Rattle.table_text.specs.Names.{id_text}
use Rattle.table_text.specs.Operations.{operation_text}
use Rattle.graph_drawing.specs.declared.placed.Placed.{Placed}
use Rattle.graph_drawing.specs.Words.{key_digits, key_end, reason_words, short_id, short_operation}
use Rattle.log_texts.specs.declared.entry.Entry.{Entry}
use Rattle.log_texts.specs.declared.names.Names.{Names}
use Rattle.log_texts.specs.declared.names.Names.TheVariants.{Whole, Cut}

-- an id: whole, or its first digits
abbrev pub id_in : Names → UpdateId → List ℕ
id_in Whole id = id_text id
id_in (Cut digits) id = short_id digits id

-- a key: whole, or its last eight digits
abbrev pub key_in : Names → AuthorKey → List ℕ
key_in Whole key = key_digits key
key_in (Cut digits) key = codes ".." ++ key_end key

-- an operation, as it stands in a transaction
abbrev pub operation_in : Names → List TableDef → Op → List ℕ
operation_in Whole tables op = operation_text tables Full op
operation_in (Cut digits) tables op = short_operation digits tables op

-- that an update is a head
abbrev pub head_mark : Bool → List ℕ
head_mark head = if head then codes " head" else []

-- that an update does nothing, and why
abbrev pub void_mark : Option ℕ → List ℕ
void_mark None = []
void_mark (Some reason) = 32 ∷ reason_words reason

-- the id, the author and the depth of an update
unfoldable pub front_text : Names → Placed → List ℕ
front_text names placed = id_in names placed.node.id ++ (32 ∷ (key_in names placed.node.author ++ (codes " depth " ++ decimal placed.depth)))

-- the line of an update
unfoldable pub line_text : Names → Entry → List ℕ
line_text names entry = front_text names entry.placed ++ (head_mark entry.head ++ (void_mark entry.reason ++ 10 ∷ []))

-- the line of a note, in quotes
abbrev pub note_row : Option (List ℕ) → List ℕ
note_row None = []
note_row (Some text) = codes "  note " ++ (quoted text ++ 10 ∷ [])

-- the line of an operation
unfoldable pub operation_row : Names → List TableDef → Op → List ℕ
operation_row names tables op = codes "  " ++ (operation_in names tables op ++ 10 ∷ [])

-- an entry with this note and these operations
unfoldable pub lines_text : Names → List TableDef → Option (List ℕ) → List Op → Entry → List ℕ
lines_text names tables note ops entry = line_text names entry ++ (note_row note ++ flat_map (operation_row names tables) ops)

-- the operations of an entry, where they are asked for
abbrev pub asked_ops : Bool → Entry → List Op
asked_ops rows entry = cond rows entry.placed.node.ops []
