-- The one spelling of each update.
use Rattle.std.specs.Prelude.{◌≡◌, ℕ, ◌+◌, ◌≤◌, ◌<◌, List, [], ◌∷◌, ◌++◌, length, Option, Some, None, true, false}
use Rattle.std.specs.List.{flat_map}
use Rattle.std.specs.Int.{w16, w32, w64, to_be_bytes, cast_unsigned}
use Rattle.update_model.specs.declared.update_id.UpdateId.{UpdateId}
use Rattle.update_model.specs.declared.author_key.AuthorKey.{AuthorKey}
use Rattle.update_model.specs.declared.row_name.RowName.{RowName}
use Rattle.update_model.specs.declared.value.Value.{Value}
use Rattle.update_model.specs.declared.value.Value.TheVariants.{Null, Int, Text, Flag, Row, Own}
use Rattle.update_model.specs.declared.op.Op.{Op}
use Rattle.update_model.specs.declared.op.Op.TheVariants.{Insert, Delete}
use Rattle.update_codec.specs.declared.limits.TheConstants.{UPDATE_LIMIT}
use Rattle.update_model.specs.Form.{BodyData, UpdateData, IsUpdate, signature_length}

-- an id: its 32 bytes
abbrev pub id : UpdateId → List ℕ
id name = name.0

-- the name of a row: the update's id, and the number of the operation there
abbrev pub row : RowName → List ℕ
row name = id name.update ++ to_be_bytes w16 name.index

-- a text: its length, and its bytes
abbrev pub text : List ℕ → List ℕ
text bytes = to_be_bytes w16 (length bytes) ++ bytes

-- a value: the tag of its kind, and what it is
abbrev pub value : Value → List ℕ
value Null = 0 ∷ []
value (Int n) = 1 ∷ to_be_bytes w64 (cast_unsigned w64 n)
value (Text bytes) = 2 ∷ text bytes
value (Flag false) = 3 ∷ 0 ∷ []
value (Flag true) = 3 ∷ 1 ∷ []
value (Row name) = 4 ∷ row name
value (Own index) = 5 ∷ to_be_bytes w16 index

-- an operation: the tag of its kind, and either the table and the counted values, or the row
abbrev pub op : Op → List ℕ
op (Insert table values) = 1 ∷ table ∷ length values ∷ flat_map value values
op (Delete name) = 2 ∷ row name

-- an operation whose values can be counted in a byte
abbrev pub IsCounted : Op → Type 0
IsCounted (Insert table values) = length values < 256
IsCounted (Delete name) = Unit {0}

-- an author's key: the LMS type, the LM-OTS type, the key's own 16 bytes, and the root
abbrev pub author : AuthorKey → List ℕ
author key = to_be_bytes w32 key.lms ++ (to_be_bytes w32 key.ots ++ (key.ident ++ key.root))

-- the version: 1 without a note, 2 with one
abbrev pub version : Option (List ℕ) → ℕ
version None = 1
version (Some bytes) = 2

-- the version, the database and the author
abbrev pub header : Option (List ℕ) → List ℕ → AuthorKey → List ℕ
header noted database key = version noted ∷ (database ++ author key)

-- all that stands before the number of operations: the header, the number of predecessors, and their ids
abbrev pub before_ops : BodyData → List ℕ
before_ops body = header body.note body.database body.author ++ (to_be_bytes w16 (length body.preds) ++ flat_map id body.preds)

-- all that stands before the next one of n operations, of which the body has those before it
abbrev pub before_next_op : BodyData → ℕ → List ℕ
before_next_op body n = before_ops body ++ (to_be_bytes w16 n ++ flat_map op body.ops)

-- what stands behind the operations: the note, if there is one
abbrev pub note : Option (List ℕ) → List ℕ
note None = []
note (Some bytes) = text bytes

-- what is signed: all up to the operations, their number, the operations, and the note
abbrev pub message : BodyData → List ℕ
message body = before_next_op body (length body.ops) ++ note body.note

-- the message, the length of the signature, and the signature
abbrev pub spelling : UpdateData → List ℕ
spelling update = message update.body ++ (to_be_bytes w32 (length update.signature) ++ update.signature)

-- how long the spelling is of a body whose author has signed it
abbrev pub signed_length : BodyData → ℕ
signed_length body = length (message body) + 4 + signature_length body.author

-- The bytes are the spelling of the update.
pub record Spells (bytes : List ℕ) (update : UpdateData) : Type 0 where
  pub form : IsUpdate update
  pub spells : bytes ≡ spelling update
  pub short : length bytes ≤ UPDATE_LIMIT

-- The bytes are the spelling of an update.
abbrev pub IsSpelling : List ℕ → Type 0
IsSpelling bytes = (update : UpdateData) × Spells bytes update
