-- The parts of a spelling, as functions of its bytes alone. Of bytes that are no spelling they say nothing.
use Rattle.std.specs.Prelude.{ℕ, zero, suc, ◌*◌, ◌-◌, List, [], ◌∷◌, length, take, drop, Option, None, Ok, Err}
use Rattle.std.specs.Int.{w16, w32, from_be_bytes}
use Rattle.sha2.specs.Sha256.{sha256}
use Rattle.update_model.specs.declared.update_id.UpdateId.{UpdateId}
use Rattle.update_model.specs.declared.author_key.AuthorKey.{AuthorKey}
use Rattle.update_model.specs.declared.op.Op.{Op}
use Rattle.update_model.specs.Form.{BodyData, UpdateData, signature_length}
use Rattle.update_model.specs.Entry.{Entry}
use Rattle.update_codec.specs.Reading.{Read, ops_at, body_at}

-- the database, which stands behind the version
unfoldable pub database_of : List ℕ → List ℕ
database_of bytes = take 32 (drop 1 bytes)

-- the author's key, which stands behind the database
unfoldable pub author_of : List ℕ → AuthorKey
author_of bytes = record {
  lms = from_be_bytes w32 (take 4 (drop 33 bytes));
  ots = from_be_bytes w32 (take 4 (drop 37 bytes));
  ident = take 16 (drop 41 bytes);
  root = take 32 (drop 57 bytes);
}

-- the ids that the bytes begin with, this many of them
unfoldable pub first_ids : ℕ → List ℕ → List UpdateId
first_ids zero bytes = []
first_ids (suc n) bytes = record { 0 = take 32 bytes } ∷ first_ids n (drop 32 bytes)

-- how many predecessors there are
unfoldable pub pred_count : List ℕ → ℕ
pred_count bytes = from_be_bytes w16 (take 2 (drop 89 bytes))

-- the predecessors, which stand behind their number
unfoldable pub preds_of : List ℕ → List UpdateId
preds_of bytes = first_ids (pred_count bytes) (drop 91 bytes)

-- the operations that were read
abbrev pub ops_read : Read (List Op) → List Op
ops_read (Ok x) = x.0
ops_read (Err halt) = []

-- the operations that the bytes begin with, behind their number
unfoldable pub first_ops : List ℕ → List Op
first_ops bytes = ops_read (ops_at (from_be_bytes w16 (take 2 bytes)) 0 (drop 2 bytes))

-- the operations, which stand behind the predecessors
unfoldable pub ops_of : List ℕ → List Op
ops_of bytes = first_ops (drop (32 * pred_count bytes) (drop 91 bytes))

-- the note of the body that was read
abbrev pub note_read : Read BodyData → Option (List ℕ)
note_read (Ok x) = x.0.note
note_read (Err halt) = None

-- the note, which stands behind the operations in version 2
unfoldable pub note_of : List ℕ → Option (List ℕ)
note_of bytes = note_read (body_at bytes)

abbrev pub body_of : List ℕ → BodyData
body_of bytes = record { database = database_of bytes; author = author_of bytes; preds = preds_of bytes; ops = ops_of bytes; note = note_of bytes }

-- the signature: the last bytes, as many as the author's key asks for
unfoldable pub signature_of : List ℕ → List ℕ
signature_of bytes = drop (length bytes - signature_length (author_of bytes)) bytes

abbrev pub update_of : List ℕ → UpdateData
update_of bytes = record { body = body_of bytes; signature = signature_of bytes }

-- the digest of all the bytes
abbrev pub id_of : List ℕ → UpdateId
id_of bytes = record { 0 = sha256 bytes }

-- what a graph sees of an update
abbrev pub entry_of : List ℕ → Entry
entry_of bytes = record { id = id_of bytes; preds = preds_of bytes; bytes = bytes }
