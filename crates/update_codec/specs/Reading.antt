-- Reading from left to right, with the first fault that is met. A fault's place is told by the number of bytes from
-- there to the end.
use Rattle.std.specs.Prelude.{◌≡◌, ℕ, zero, suc, ◌+◌, ◌-◌, List, [], ◌∷◌, length, take, drop, Option, Some, None, Result, Ok, Err, Bool, true, false, ◌&&◌, ◌||◌, nat_lt, nat_le, ◌==◌, if◌then◌else◌}
use Rattle.std.specs.Int.{Width, w16, w32, w64, byte_len, from_be_bytes, cast_signed}
use Rattle.std.specs.Str.{is_utf8}
use Rattle.update_model.specs.declared.update_id.UpdateId.{UpdateId}
use Rattle.update_model.specs.declared.author_key.AuthorKey.{AuthorKey}
use Rattle.update_model.specs.declared.row_name.RowName.{RowName}
use Rattle.update_model.specs.declared.value.Value.{Value}
use Rattle.update_model.specs.declared.value.Value.TheVariants as values
use Rattle.update_model.specs.declared.op.Op.{Op}
use Rattle.update_model.specs.declared.op.Op.TheVariants as ops
use Rattle.update_model.specs.Form.{BodyData, UpdateData, is_below, most_ops, signature_length}
use Rattle.update_model.specs.declared.limits.TheConstants.{MAX_NOTE, MAX_PREDS, MAX_TEXT, MAX_VALUES}
use Rattle.update_codec.specs.declared.limits.TheConstants.{UPDATE_LIMIT}
use Rattle.update_codec.specs.declared.codec_fault.CodecKind.{CodecKind}
use Rattle.update_codec.specs.declared.codec_fault.CodecKind.TheVariants as kinds
use Rattle.update_codec.specs.declared.codec_fault.CodecFault.{CodecFault}
use Rattle.update_codec.specs.declared.halt.Halt.{Halt}
use Rattle.update_codec.specs.declared.halt.UpdateReadError.{UpdateReadError}
use Rattle.update_codec.specs.declared.halt.UpdateReadError.TheVariants as errors

-- a value and the bytes after it, or the first fault
abbrev pub Read : Type 0 → Type 0
Read A = Result (A × List ℕ) Halt

-- what comes next, unless there was a fault
infixl 10 ◌>>=◌
abbrev pub ◌>>=◌ : {A B : Type 0} → Result A Halt → (A → Result B Halt) → Result B Halt
(Ok x) >>= f = f x
(Err e) >>= f = Err e

-- a reader failed as this reading does
abbrev pub Stops : {Y : Type 0} → UpdateReadError → Result Y Halt → Type 0
Stops errors.Memory read = Unit {0}
Stops (errors.Halted halt) read = read ≡ Err halt

-- what a reader returned, seen by view, is this reading, unless memory ran out
abbrev pub Gives : {X Y : Type 0} → (X → Y) → Result X UpdateReadError → Result Y Halt → Type 0
Gives view (Ok x) read = read ≡ Ok (view x)
Gives view (Err error) read = Stops error read

-- the input ends in a field
abbrev pub short : {A : Type 0} → Result A Halt
short = Err (record { kind = kinds.Short; left = 0 })

-- a fault where these bytes are still to come
abbrev pub fault : {A : Type 0} → CodecKind → List ℕ → Result A Halt
fault kind here = Err (record { kind = kind; left = length here })

-- what was read at this place is judged
abbrev pub judge : Bool → CodecKind → List ℕ → Result (Unit {0}) Halt
judge good kind here = if good then Ok tt else fault kind here

abbrev pub byte_at : List ℕ → Read ℕ
byte_at [] = short
byte_at (b ∷ rest) = Ok (b, rest)

abbrev pub block_at : ℕ → List ℕ → Read (List ℕ)
block_at n bytes = if nat_lt (length bytes) n then short else Ok (take n bytes, drop n bytes)

abbrev pub number_at : Width → List ℕ → Read ℕ
number_at w bytes = if nat_lt (length bytes) (byte_len w) then short else Ok (from_be_bytes w (take (byte_len w) bytes), drop (byte_len w) bytes)

unfoldable pub id_at : List ℕ → Read UpdateId
id_at bytes = do
  block ← block_at 32 bytes
  Ok (record { 0 = block.0 }, block.1)

unfoldable pub row_at : List ℕ → Read RowName
row_at bytes = do
  update ← id_at bytes
  index ← number_at w16 update.1
  Ok (record { update = update.0; index = index.0 }, index.1)

unfoldable pub int_at : List ℕ → Read Value
int_at bytes = do
  bits ← number_at w64 bytes
  Ok (values.Int (cast_signed w64 bits.0), bits.1)

-- a text of at most this many bytes
unfoldable pub text_at : ℕ → List ℕ → Read (List ℕ)
text_at most bytes = do
  len ← number_at w16 bytes
  small ← judge (nat_le len.0 most) kinds.Text bytes
  text ← block_at len.0 len.1
  utf8 ← judge (is_utf8 text.0) kinds.Text len.1
  Ok text

unfoldable pub flag_at : List ℕ → Read Value
flag_at [] = short
flag_at (zero ∷ rest) = Ok (values.Flag false, rest)
flag_at (suc zero ∷ rest) = Ok (values.Flag true, rest)
flag_at (suc (suc b) ∷ rest) = fault kinds.Tag (suc (suc b) ∷ rest)

-- in the operation with this number
unfoldable pub own_at : ℕ → List ℕ → Read Value
own_at number bytes = do
  index ← number_at w16 bytes
  earlier ← judge (nat_lt index.0 number) kinds.OwnIndex bytes
  Ok (values.Own index.0, index.1)

unfoldable pub value_at : ℕ → List ℕ → Read Value
value_at number [] = short
value_at number (tag ∷ rest) =
    if tag == 0 then Ok (values.Null, rest)
    else if tag == 1 then int_at rest
    else if tag == 2 then (text_at MAX_TEXT rest >>= λ text. Ok (values.Text text.0, text.1))
    else if tag == 3 then flag_at rest
    else if tag == 4 then (row_at rest >>= λ row. Ok (values.Row row.0, row.1))
    else if tag == 5 then own_at number rest
    else fault kinds.Tag (tag ∷ rest)

-- this many values
unfoldable pub values_at : ℕ → ℕ → List ℕ → Read (List Value)
values_at number zero bytes = Ok ([], bytes)
values_at number (suc n) bytes = do
  first ← value_at number bytes
  others ← values_at number n first.1
  Ok (first.0 ∷ others.0, others.1)

unfoldable pub insert_at : ℕ → List ℕ → Read Op
insert_at number bytes = do
  table ← byte_at bytes
  count ← byte_at table.1
  right ← judge (nat_le 1 count.0 && nat_le count.0 MAX_VALUES) kinds.Count table.1
  values ← values_at number count.0 count.1
  Ok (ops.Insert table.0 values.0, values.1)

unfoldable pub op_at : ℕ → List ℕ → Read Op
op_at number [] = short
op_at number (tag ∷ rest) =
    if tag == 1 then insert_at number rest
    else if tag == 2 then (row_at rest >>= λ row. Ok (ops.Delete row.0, row.1))
    else fault kinds.Tag (tag ∷ rest)

-- this many operations, the first of them with this number
unfoldable pub ops_at : ℕ → ℕ → List ℕ → Read (List Op)
ops_at zero number bytes = Ok ([], bytes)
ops_at (suc n) number bytes = do
  first ← op_at number bytes
  others ← ops_at n (number + 1) first.1
  Ok (first.0 ∷ others.0, others.1)

unfoldable pub author_at : List ℕ → Read AuthorKey
author_at bytes = do
  lms ← number_at w32 bytes
  tree ← judge (nat_le 5 lms.0 && nat_le lms.0 7) kinds.KeyType bytes
  ots ← number_at w32 lms.1
  chain ← judge (nat_le 1 ots.0 && nat_le ots.0 4) kinds.KeyType lms.1
  ident ← block_at 16 ots.1
  root ← block_at 32 ident.1
  Ok (record { lms = lms.0; ots = ots.0; ident = ident.0; root = root.0 }, root.1)

-- whether an id may come after the one before it, if there is one
abbrev pub is_next : Option UpdateId → UpdateId → Bool
is_next None id = true
is_next (Some last) id = is_below last id

-- this many ids, each above the one before it
unfoldable pub ids_at : ℕ → Option UpdateId → List ℕ → Read (List UpdateId)
ids_at zero last bytes = Ok ([], bytes)
ids_at (suc n) last bytes = do
  id ← id_at bytes
  above ← judge (is_next last id.0) kinds.Order bytes
  others ← ids_at n (Some id.0) id.1
  Ok (id.0 ∷ others.0, others.1)

-- the note of a body of which no note is read yet: none in version 1, an empty one in version 2
abbrev pub first_note : ℕ → Option (List ℕ)
first_note version = if version == 1 then None else Some []

-- all that stands before the number of operations
unfoldable pub before_ops_at : List ℕ → Read BodyData
before_ops_at bytes = do
  version ← byte_at bytes
  known ← judge (version.0 == 1 || version.0 == 2) kinds.Version bytes
  database ← block_at 32 version.1
  author ← author_at database.1
  n ← number_at w16 author.1
  few ← judge (nat_le n.0 MAX_PREDS) kinds.Count author.1
  preds ← ids_at n.0 None n.1
  Ok (record { database = database.0; author = author.0; preds = preds.0; ops = []; note = first_note version.0 }, preds.1)

-- what stands behind the operations of a body that has this note until then
unfoldable pub note_at : Option (List ℕ) → List ℕ → Read (Option (List ℕ))
note_at None bytes = Ok (None, bytes)
note_at (Some first) bytes = do
  text ← text_at MAX_NOTE bytes
  Ok (Some text.0, text.1)

-- all that is signed
unfoldable pub body_at : List ℕ → Read BodyData
body_at bytes = do
  before ← before_ops_at bytes
  n ← number_at w16 before.1
  few ← judge (nat_le n.0 (most_ops before.0.note)) kinds.Count before.1
  ops ← ops_at n.0 0 n.1
  note ← note_at before.0.note ops.1
  Ok (record { database = before.0.database; author = before.0.author; preds = before.0.preds; ops = ops.0; note = note.0 }, note.1)

unfoldable pub update_at : List ℕ → Read UpdateData
update_at bytes = do
  body ← body_at bytes
  n ← number_at w32 body.1
  right ← judge (n.0 == signature_length body.0.author) kinds.SignatureLength body.1
  signature ← block_at n.0 n.1
  Ok (record { body = body.0; signature = signature.0 }, signature.1)

-- all of the bytes
unfoldable pub whole : List ℕ → Result UpdateData Halt
whole bytes = do
  update ← update_at bytes
  ended ← judge (length update.1 == 0) kinds.Trailing update.1
  Ok update.0

-- a reading of this many bytes, with the fault's place from the start
abbrev pub placed : {A : Type 0} → ℕ → Result A Halt → Result A CodecFault
placed len (Ok x) = Ok x
placed len (Err halt) = Err (record { kind = halt.kind; place = len - halt.left })

-- the update, or the first fault and its place from the start
unfoldable pub first_of : List ℕ → Result UpdateData CodecFault
first_of bytes = if nat_lt UPDATE_LIMIT (length bytes) then Err (record { kind = kinds.TooLong; place = UPDATE_LIMIT }) else placed (length bytes) (whole bytes)
