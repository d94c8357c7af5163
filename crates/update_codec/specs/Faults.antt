-- The first fault of bytes that spell no update, told by what stands before it.
--
-- In each of the families below the bytes end in a whole field that has a fault, all that stands before this field
-- is in form, and the number is the fault's place among these bytes. That a fault is the first one needs no words:
-- a field can follow fields in form in one way only.
use Rattle.std.specs.Prelude.{◌≡◌, ◌≢◌, ℕ, ◌+◌, ◌*◌, ◌≤◌, ◌<◌, ◌^◌, List, [], ◌∷◌, ◌++◌, length, Option, Some, None, IsUtf8}
use Rattle.std.specs.List.{flat_map, AllByRecursion}
use Rattle.std.specs.Int.{w16, w32, to_be_bytes}
use Rattle.update_model.specs.declared.update_id.UpdateId.{UpdateId}
use Rattle.update_model.specs.declared.author_key.AuthorKey.{AuthorKey}
use Rattle.update_model.specs.declared.value.Value.{Value}
use Rattle.update_model.specs.Block.{IsBlock, IsId}
use Rattle.update_model.specs.Form.{BodyData, UpdateData, IsKey, AreRising, IsBody, IsUpdate, most_ops, signature_length}
use Rattle.update_model.specs.Rows.{IsValue}
use Rattle.update_model.specs.declared.limits.TheConstants.{MAX_NOTE, MAX_PREDS, MAX_TEXT, MAX_VALUES}
use Rattle.update_codec.specs.declared.limits.TheConstants.{UPDATE_LIMIT}
use Rattle.update_codec.specs.Spelling as spell
use Rattle.update_codec.specs.declared.codec_fault.CodecKind.{CodecKind}
use Rattle.update_codec.specs.declared.codec_fault.CodecKind.TheVariants as kinds

-- an LMS type of height 5, 10 or 15
abbrev pub IsTreeType : ℕ → Type 0
IsTreeType kind = (5 ≤ kind) × (kind ≤ 7)

-- an LM-OTS type of 1, 2, 4 or 8 bits a digit
abbrev pub IsChainType : ℕ → Type 0
IsChainType kind = (1 ≤ kind) × (kind ≤ 4)

-- how many values an insert may have
abbrev pub IsValueCount : ℕ → Type 0
IsValueCount n = (1 ≤ n) × (n ≤ MAX_VALUES)

-- a key of another LMS type, or of another LM-OTS type behind an LMS type that is known
pub data KeyFault : List ℕ → CodecKind → ℕ → Type 0 where
  tree_type : (lms : ℕ) → lms < 2 ^ 32 → ¬ (IsTreeType lms) → KeyFault (to_be_bytes w32 lms) kinds.KeyType 0
  chain_type : (lms ots : ℕ) → IsTreeType lms → ots < 2 ^ 32 → ¬ (IsChainType ots) → KeyFault (to_be_bytes w32 lms ++ to_be_bytes w32 ots) kinds.KeyType 4

-- a text of at most this many bytes: one that is too long, or no UTF-8
pub data TextFault (most : ℕ) : List ℕ → CodecKind → ℕ → Type 0 where
  long_text : (n : ℕ) → n < 2 ^ 16 → most < n → TextFault most (to_be_bytes w16 n) kinds.Text 0
  no_text : (bytes : List ℕ) → length bytes ≤ most → ¬ (IsUtf8 bytes) → TextFault most (spell.text bytes) kinds.Text 2

-- a value in the operation with this number: an unknown tag, a text that has a fault, a flag that is neither 0 nor 1,
-- or an own reference to no earlier operation
pub data ValueFault (number : ℕ) : List ℕ → CodecKind → ℕ → Type 0 where
  value_tag : (tag : ℕ) → 6 ≤ tag → ValueFault number (tag ∷ []) kinds.Tag 0
  in_text : (front : List ℕ) (kind : CodecKind) (at : ℕ) → TextFault MAX_TEXT front kind at → ValueFault number (2 ∷ front) kind (1 + at)
  flag_tag : (flag : ℕ) → 2 ≤ flag → ValueFault number (3 ∷ flag ∷ []) kinds.Tag 1
  later_own : (index : ℕ) → index < 2 ^ 16 → number ≤ index → ValueFault number (5 ∷ to_be_bytes w16 index) kinds.OwnIndex 1

-- the operation with this number: an unknown tag, a number of values that is not 1 to 16, or a value that has a fault
pub data OpFault (number : ℕ) : List ℕ → CodecKind → ℕ → Type 0 where
  op_tag : (tag : ℕ) → tag ≢ 1 → tag ≢ 2 → OpFault number (tag ∷ []) kinds.Tag 0
  value_count : (table n : ℕ) → ¬ (IsValueCount n) → OpFault number (1 ∷ table ∷ n ∷ []) kinds.Count 2
  in_value : (table n : ℕ) (values : List Value) (front : List ℕ) (kind : CodecKind) (at : ℕ)
      → IsValueCount n → length values < n → AllByRecursion (IsValue number) values → ValueFault number front kind at
      → OpFault number (1 ∷ table ∷ n ∷ (flat_map spell.value values ++ front)) kind (3 + length (flat_map spell.value values) + at)

-- a body: another version, a key that has a fault, too many predecessors, one that is not above the one before it, too
-- many operations for the version, one that has a fault, or a note that has one. The version stands before all else, so
-- what is in form before a fault has a note, be it an empty one, exactly in version 2.
pub data BodyFault : List ℕ → CodecKind → ℕ → Type 0 where
  other_version : (version : ℕ) → version ≢ 1 → version ≢ 2 → BodyFault (version ∷ []) kinds.Version 0
  in_key : (note : Option (List ℕ)) (database front : List ℕ) (kind : CodecKind) (at : ℕ) → IsBlock 32 database → KeyFault front kind at
      → BodyFault (spell.version note ∷ (database ++ front)) kind (33 + at)
  pred_count : (note : Option (List ℕ)) (database : List ℕ) (key : AuthorKey) (n : ℕ) → IsBlock 32 database → IsKey key → n < 2 ^ 16 → MAX_PREDS < n
      → BodyFault (spell.header note database key ++ to_be_bytes w16 n) kinds.Count 89
  pred_order : (note : Option (List ℕ)) (database : List ℕ) (key : AuthorKey) (n : ℕ) (ids : List UpdateId) (id : UpdateId) → IsBlock 32 database → IsKey key
      → n ≤ MAX_PREDS → length ids < n → AllByRecursion IsId ids → AreRising None ids → IsId id → ¬ (AreRising None (ids ++ id ∷ []))
      → BodyFault (spell.header note database key ++ (to_be_bytes w16 n ++ (flat_map spell.id ids ++ spell.id id))) kinds.Order (91 + 32 * length ids)
  op_count : (before : BodyData) (n : ℕ) → IsBody before → before.ops ≡ [] → n < 2 ^ 16 → most_ops before.note < n
      → BodyFault (spell.before_ops before ++ to_be_bytes w16 n) kinds.Count (91 + 32 * length before.preds)
  in_op : (before : BodyData) (n : ℕ) (front : List ℕ) (kind : CodecKind) (at : ℕ) → IsBody before → n ≤ most_ops before.note → length before.ops < n
      → OpFault (length before.ops) front kind at
      → BodyFault (spell.before_next_op before n ++ front) kind (length (spell.before_next_op before n) + at)
  in_note : (before : BodyData) (front : List ℕ) (kind : CodecKind) (at : ℕ) → IsBody before → before.note ≡ Some [] → TextFault MAX_NOTE front kind at
      → BodyFault (spell.before_next_op before (length before.ops) ++ front) kind (length (spell.before_next_op before (length before.ops)) + at)

-- an update: a body that has a fault, or another length of the signature than its author's key asks for
pub data UpdateFault : List ℕ → CodecKind → ℕ → Type 0 where
  in_body : (front : List ℕ) (kind : CodecKind) (at : ℕ) → BodyFault front kind at → UpdateFault front kind at
  other_length : (body : BodyData) (n : ℕ) → IsBody body → n < 2 ^ 32 → n ≢ signature_length body.author
      → UpdateFault (spell.message body ++ to_be_bytes w32 n) kinds.SignatureLength (length (spell.message body))

-- The bytes begin with an update.
pub record BeginsWithUpdate (bytes : List ℕ) : Type 0 where
  pub update : UpdateData
  pub rest : List ℕ
  pub form : IsUpdate update
  pub parts : bytes ≡ spell.spelling update ++ rest

-- The bytes begin with a field that has a fault, behind fields that have none.
pub record BeginsWithFault (bytes : List ℕ) : Type 0 where
  pub front : List ℕ
  pub rest : List ℕ
  pub kind : CodecKind
  pub at : ℕ
  pub is_fault : UpdateFault front kind at
  pub parts : bytes ≡ front ++ rest

-- The first fault of bytes that spell no update, and its place: they are too long, begin with a field that has a
-- fault, go on behind an update, or end in a field (so that they begin with neither).
pub data FirstFault (bytes : List ℕ) : CodecKind → ℕ → Type 0 where
  too_long : UPDATE_LIMIT < length bytes → FirstFault bytes kinds.TooLong UPDATE_LIMIT
  in_field : (front rest : List ℕ) (kind : CodecKind) (at : ℕ) → length bytes ≤ UPDATE_LIMIT → bytes ≡ front ++ rest → UpdateFault front kind at → FirstFault bytes kind at
  after_update : (update : UpdateData) (rest : List ℕ) → length bytes ≤ UPDATE_LIMIT → IsUpdate update → bytes ≡ spell.spelling update ++ rest → rest ≢ []
      → FirstFault bytes kinds.Trailing (length (spell.spelling update))
  cut_short : length bytes ≤ UPDATE_LIMIT → ¬ (BeginsWithUpdate bytes) → ¬ (BeginsWithFault bytes) → FirstFault bytes kinds.Short (length bytes)
