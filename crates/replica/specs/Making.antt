-- What a replica makes of operations, and why it makes nothing.
use Rattle.std.specs.Prelude.{◌≡◌, ℕ, ◌+◌, ◌<◌, ◌≤◌, Bool, true, false, IsTrue, List, [], ◌∷◌, ◌++◌, length, map, take, Option, Some, None, Result, Ok, Err, nat_le, if◌then◌else◌}
use Rattle.std.specs.Int.{w32, to_be_bytes}
use Rattle.std.specs.List.{list_any}
use Rattle.update_model.specs.declared.author_key.AuthorKey.{AuthorKey}
use Rattle.update_model.specs.declared.limits.TheConstants.{MAX_BYTES, MAX_MEMBERS, MAX_PLAIN_OPS, MAX_PREDS}
use Rattle.update_model.specs.declared.op.Op.{Op}
use Rattle.update_model.specs.declared.op.Op.TheVariants.{Insert, Delete}
use Rattle.update_model.specs.declared.update_id.UpdateId.{UpdateId}
use Rattle.update_model.specs.declared.value.Value.{Value}
use Rattle.update_model.specs.declared.value.Value.TheVariants.{Null, Int, Text, Flag, Row, Own}
use Rattle.update_model.specs.Entry.{same_id}
use Rattle.update_model.specs.Form.{BodyData, IsBody, UpdateData, signature_length}
use Rattle.update_model.specs.Block.{IsBlock}
use Rattle.update_model.specs.Graph.{AreHeads, byte_count, holds}
use Rattle.update_model.specs.Node.{NodeData}
use Rattle.update_model.specs.Rule.{IsListed}
use Rattle.update_codec.specs.declared.limits.TheConstants.{UPDATE_LIMIT}
use Rattle.update_codec.specs.Parts.{entry_of, id_of}
use Rattle.update_codec.specs.Spelling.{Spells, message, signed_length}
use Rattle.update_check.specs.Members.{AreMembers}
use Rattle.update_check.specs.Signed.{node_of}
use Rattle.lms_tree.specs.SecretKey.{SecretData, public_key, signature_by}
use Rattle.lms_tree.specs.Signature.{Signed}
use Rattle.schema.specs.Data.{Meaning}
use Rattle.table_model.specs.declared.verdict.Verdict.{Verdict}
use Rattle.table_model.specs.declared.verdict.Verdict.TheVariants.{Valid, Void}
use Rattle.history.specs.Histories.{HistoryData, verdict_after}
use Rattle.key_index.specs.Used.{least_unused}
use Rattle.replica.specs.declared.contents.Contents.{Contents}
use Rattle.replica.specs.declared.make_fault.MakeFault.{MakeFault}
use Rattle.replica.specs.declared.make_fault.Side.TheVariants.{Key, Log}
use Rattle.replica.specs.declared.make_fault.MakeFault.TheVariants.{NotListed, TooManyHeads, Invalid, TooLong, Full, Spent, Taken, DiskFault, Memory}

-- whether a value names a row of the update with this id
abbrev pub value_names : UpdateId → Value → Bool
value_names id Null = false
value_names id (Int n) = false
value_names id (Text bytes) = false
value_names id (Flag flag) = false
value_names id (Row row) = same_id id row.update
value_names id (Own index) = false

-- whether an operation does
abbrev pub op_names : UpdateId → Op → Bool
op_names id (Insert table values) = list_any (value_names id) values
op_names id (Delete row) = same_id id row.update

-- Operations after these predecessors, before they are signed. The update's own id is not known yet, so another one stands in its place,
-- which no held update has and no operation names.
pub record IsDraft (history : HistoryData) (author : AuthorKey) (preds : List UpdateId) (ops : List Op) (draft : NodeData) : Type 0 where
  pub new : holds (map entry_of history.members) draft.id ≡ false
  pub unnamed : list_any (op_names draft.id) ops ≡ false
  pub author_is : draft.author ≡ author
  pub preds_are : draft.preds ≡ preds
  pub ops_are : draft.ops ≡ ops

-- A draft of them is judged so.
abbrev pub IsJudged : Meaning → HistoryData → AuthorKey → List UpdateId → List Op → Verdict → Type 0
IsJudged ask history author preds ops verdict = (draft : NodeData) × IsDraft history author preds ops draft × (verdict_after ask history draft ≡ verdict)

-- the note of an update of operations that are given this one, or none: without one more than 64 have an empty one
abbrev pub note_for : Option (List ℕ) → List Op → Option (List ℕ)
note_for None ops = if nat_le (length ops) MAX_PLAIN_OPS then None else Some []
note_for (Some note) ops = Some note

-- what an update says of operations that are given this note, or none
abbrev pub saying : Option (List ℕ) → List Op → Contents
saying note ops = record { ops = ops; note = note_for note ops }

-- what it says of operations that are given none
abbrev pub plain : List Op → Contents
plain ops = saying None ops

-- the body that an author signs
abbrev pub body_with : HistoryData → AuthorKey → List UpdateId → Contents → BodyData
body_with history author preds says = record { database = history.schema.rule.database; author = author; preds = preds; ops = says.ops; note = says.note }

-- the body that an author signs of operations that are given no note
abbrev pub body_by : HistoryData → AuthorKey → List UpdateId → List Op → BodyData
body_by history author preds ops = body_with history author preds (plain ops)

-- the update that a key makes of a body at an index, with C
abbrev pub update_by : SecretData → ℕ → List ℕ → BodyData → UpdateData
update_by secret index c body = record { body = body; signature = signature_by secret index c (message body) }

-- One more update with so many bytes is within the limits of a store.
pub record HasRoom (history : HistoryData) (len : ℕ) : Type 0 where
  pub one_more : length history.members < MAX_MEMBERS
  pub bytes : byte_count (map entry_of history.members) + len ≤ MAX_BYTES

-- The bytes are those of the update that this key makes, which says this after these predecessors, at its least index that is not used.
pub record IsMadeWith (history : HistoryData) (secret : SecretData) (taken : List Bool) (preds : List UpdateId) (says : Contents) (c bytes : List ℕ) : Type 0 where
  pub index : ℕ
  pub least : least_unused taken ≡ Some index
  pub spells : Spells bytes (update_by secret index c (body_with history (public_key secret) preds says))

-- The same of operations that are given no note.
abbrev pub IsMadeBy : HistoryData → SecretData → List Bool → List UpdateId → List Op → List ℕ → List ℕ → Type 0
IsMadeBy history secret taken preds ops c bytes = IsMadeWith history secret taken preds (plain ops) c bytes

-- The signature is what a key makes of a message with C, at its least index that is not used, and it is valid.
pub record IsSignedBy (secret : SecretData) (taken : List Bool) (c message signature : List ℕ) : Type 0 where
  pub index : ℕ
  pub least : least_unused taken ≡ Some index
  pub made : signature ≡ signature_by secret index c message
  pub valid : Signed (public_key secret) message signature

-- The bytes are a message, and behind its length a signature that a key makes of it.
pub record AreSignedBy (secret : SecretData) (taken : List Bool) (c message bytes : List ℕ) : Type 0 where
  pub signature : List ℕ
  pub signed : IsSignedBy secret taken c message signature
  pub spelled : bytes ≡ message ++ (to_be_bytes w32 (length signature) ++ signature)
  pub block : IsBlock (signature_length (public_key secret)) signature

-- These are the predecessors of an update that is made: all heads.
abbrev pub AfterAllHeads : HistoryData → List UpdateId → Type 0
AfterAllHeads history preds = AreHeads (map entry_of history.members) preds

-- These are the predecessors of an update that joins heads: the least 1,024 of two or more.
pub record AfterLeastHeads (history : HistoryData) (preds : List UpdateId) : Type 0 where
  pub heads : List UpdateId
  pub are : AreHeads (map entry_of history.members) heads
  pub several : 2 ≤ length heads
  pub least : preds ≡ take MAX_PREDS heads

-- The author may write, and the heads can all be named.
pub record MayMake (history : HistoryData) (secret : SecretData) (preds : List UpdateId) : Type 0 where
  pub listed : IsListed history.schema.rule.authors (public_key secret)
  pub after : AfterAllHeads history preds
  pub few : length preds ≤ MAX_PREDS

-- What would be made is valid besides.
pub record MaySign (ask : Meaning) (history : HistoryData) (secret : SecretData) (preds : List UpdateId) (ops : List Op) : Type 0 where
  pub may_make : MayMake history secret preds
  pub valid : IsJudged ask history (public_key secret) preds ops Valid

-- Its length is within the limit, and it has room.
pub record HasLength (history : HistoryData) (secret : SecretData) (preds : List UpdateId) (says : Contents) : Type 0 where
  pub short : signed_length (body_with history (public_key secret) preds says) ≤ UPDATE_LIMIT
  pub room : HasRoom history (signed_length (body_with history (public_key secret) preds says))

-- Why an update that says this after these predecessors was not signed: its length, its room, the key's indices, or its id, in this order.
abbrev pub IsSignCause : HistoryData → SecretData → List Bool → List UpdateId → Contents → List ℕ → MakeFault → Type 0
IsSignCause history secret taken preds says c NotListed = ⊥
IsSignCause history secret taken preds says c (TooManyHeads n) = ⊥
IsSignCause history secret taken preds says c (Invalid reason operation) = ⊥
IsSignCause history secret taken preds says c (TooLong len) = (signed_length (body_with history (public_key secret) preds says) ≡ len) × (UPDATE_LIMIT < len)
IsSignCause history secret taken preds says c Full =
    (signed_length (body_with history (public_key secret) preds says) ≤ UPDATE_LIMIT) × ¬ (HasRoom history (signed_length (body_with history (public_key secret) preds says)))
IsSignCause history secret taken preds says c Spent = HasLength history secret preds says × (least_unused taken ≡ None)
IsSignCause history secret taken preds says c (Taken id) =
    HasLength history secret preds says × ((bytes : List ℕ) × IsMadeWith history secret taken preds says c bytes × (id_of bytes ≡ id) × (holds (map entry_of history.members) id ≡ true))
IsSignCause history secret taken preds says c (DiskFault side) = side ≡ Key
IsSignCause history secret taken preds says c Memory = Unit {0}

-- Why there is no message of a body.
abbrev pub IsMessageCause : BodyData → MakeFault → Type 0
IsMessageCause body NotListed = ⊥
IsMessageCause body (TooManyHeads n) = ⊥
IsMessageCause body (Invalid reason operation) = ⊥
IsMessageCause body (TooLong len) = (signed_length body ≡ len) × (UPDATE_LIMIT < len)
IsMessageCause body Full = ⊥
IsMessageCause body Spent = ⊥
IsMessageCause body (Taken id) = ⊥
IsMessageCause body (DiskFault side) = ⊥
IsMessageCause body Memory = Unit {0}

-- Why bytes that were signed are no new update: another one has their id.
abbrev pub IsNewCause : HistoryData → List ℕ → MakeFault → Type 0
IsNewCause history bytes NotListed = ⊥
IsNewCause history bytes (TooManyHeads n) = ⊥
IsNewCause history bytes (Invalid reason operation) = ⊥
IsNewCause history bytes (TooLong len) = ⊥
IsNewCause history bytes Full = ⊥
IsNewCause history bytes Spent = ⊥
IsNewCause history bytes (Taken id) = (id_of bytes ≡ id) × (holds (map entry_of history.members) id ≡ true)
IsNewCause history bytes (DiskFault side) = ⊥
IsNewCause history bytes Memory = Unit {0}

-- Why bytes were not signed.
abbrev pub IsBytesCause : List Bool → MakeFault → Type 0
IsBytesCause taken NotListed = ⊥
IsBytesCause taken (TooManyHeads n) = ⊥
IsBytesCause taken (Invalid reason operation) = ⊥
IsBytesCause taken (TooLong len) = ⊥
IsBytesCause taken Full = ⊥
IsBytesCause taken Spent = least_unused taken ≡ None
IsBytesCause taken (Taken id) = ⊥
IsBytesCause taken (DiskFault side) = side ≡ Key
IsBytesCause taken Memory = Unit {0}

-- Why an update that was signed was not added: the log's disk failed, or memory ran out.
abbrev pub IsAddCause : MakeFault → Type 0
IsAddCause NotListed = ⊥
IsAddCause (TooManyHeads n) = ⊥
IsAddCause (Invalid reason operation) = ⊥
IsAddCause (TooLong len) = ⊥
IsAddCause Full = ⊥
IsAddCause Spent = ⊥
IsAddCause (Taken id) = ⊥
IsAddCause (DiskFault side) = side ≡ Log
IsAddCause Memory = Unit {0}

-- Why nothing was made. Each cause stands where none before it does, in this order; a fault of a disk and want of memory have theirs in
-- counts and in nothing.
abbrev pub IsMakeCauseWith : Meaning → HistoryData → SecretData → List Bool → Contents → List ℕ → MakeFault → Type 0
IsMakeCauseWith ask history secret taken says c NotListed = ¬ (IsListed history.schema.rule.authors (public_key secret))
IsMakeCauseWith ask history secret taken says c (TooManyHeads n) =
    IsListed history.schema.rule.authors (public_key secret) × ((heads : List UpdateId) × AfterAllHeads history heads × (length heads ≡ n) × (MAX_PREDS < n))
IsMakeCauseWith ask history secret taken says c (Invalid reason operation) =
    (preds : List UpdateId) × MayMake history secret preds × IsJudged ask history (public_key secret) preds says.ops (Void reason operation)
IsMakeCauseWith ask history secret taken says c (TooLong len) =
    (preds : List UpdateId) × MaySign ask history secret preds says.ops × (signed_length (body_with history (public_key secret) preds says) ≡ len) × (UPDATE_LIMIT < len)
IsMakeCauseWith ask history secret taken says c Full =
    (preds : List UpdateId) × MaySign ask history secret preds says.ops × (signed_length (body_with history (public_key secret) preds says) ≤ UPDATE_LIMIT)
    × ¬ (HasRoom history (signed_length (body_with history (public_key secret) preds says)))
IsMakeCauseWith ask history secret taken says c Spent =
    (preds : List UpdateId) × MaySign ask history secret preds says.ops × HasLength history secret preds says × (least_unused taken ≡ None)
IsMakeCauseWith ask history secret taken says c (Taken id) =
    (preds : List UpdateId) × MaySign ask history secret preds says.ops × HasLength history secret preds says
    × ((bytes : List ℕ) × IsMadeWith history secret taken preds says c bytes × (id_of bytes ≡ id) × (holds (map entry_of history.members) id ≡ true))
IsMakeCauseWith ask history secret taken says c (DiskFault side) = Unit {0}
IsMakeCauseWith ask history secret taken says c Memory = Unit {0}

-- The same of operations that are given no note.
abbrev pub IsMakeCause : Meaning → HistoryData → SecretData → List Bool → List Op → List ℕ → MakeFault → Type 0
IsMakeCause ask history secret taken ops c why = IsMakeCauseWith ask history secret taken (plain ops) c why

-- The body that says this after all heads, by this key, has its form.
abbrev pub HasBodyWith : HistoryData → SecretData → Contents → Type 0
HasBodyWith history secret says = (preds : List UpdateId) × AfterAllHeads history preds × IsBody (body_with history (public_key secret) preds says)

-- Where one message was signed, it was that of the body that says this after all heads.
abbrev pub SignsBodyWith : Result UpdateId MakeFault → HistoryData → SecretData → Contents → Type 0
SignsBodyWith (Ok id) history secret says = HasBodyWith history secret says
SignsBodyWith (Err NotListed) history secret says = Unit {0}
SignsBodyWith (Err (TooManyHeads n)) history secret says = Unit {0}
SignsBodyWith (Err (Invalid reason operation)) history secret says = Unit {0}
SignsBodyWith (Err (TooLong len)) history secret says = Unit {0}
SignsBodyWith (Err Full) history secret says = Unit {0}
SignsBodyWith (Err Spent) history secret says = Unit {0}
SignsBodyWith (Err (Taken id)) history secret says = HasBodyWith history secret says
SignsBodyWith (Err (DiskFault Key)) history secret says = Unit {0}
SignsBodyWith (Err (DiskFault Log)) history secret says = HasBodyWith history secret says
SignsBodyWith (Err Memory) history secret says = Unit {0}

-- The same of operations that are given no note.
abbrev pub HasBody : HistoryData → SecretData → List Op → Type 0
HasBody history secret ops = HasBodyWith history secret (plain ops)

abbrev pub SignsBody : Result UpdateId MakeFault → HistoryData → SecretData → List Op → Type 0
SignsBody result history secret ops = SignsBodyWith result history secret (plain ops)

-- An update that says this after these predecessors was made by the key, and stands last. It is valid where it had to be.
pub record AddsMade (ask : Meaning) (has_to_be_valid : Bool) (old : HistoryData) (secret : SecretData) (taken : List Bool) (preds : List UpdateId) (says : Contents) (c : List ℕ) (id : UpdateId) (new : HistoryData) : Type 0 where
  pub bytes : List ℕ
  pub made : IsMadeWith old secret taken preds says c bytes
  pub members : AreMembers old.schema.rule (old.members ++ bytes ∷ [])
  pub valid : IsTrue has_to_be_valid → verdict_after ask old (node_of bytes) ≡ Valid
  pub id_is : id ≡ id_of bytes
  pub last : new ≡ record { schema = old.schema; members = old.members ++ bytes ∷ [] }

-- Why nothing was made before anything was signed.
abbrev pub IsPlanCause : Meaning → HistoryData → SecretData → List Op → MakeFault → Type 0
IsPlanCause ask history secret ops NotListed = ¬ (IsListed history.schema.rule.authors (public_key secret))
IsPlanCause ask history secret ops (TooManyHeads n) =
    IsListed history.schema.rule.authors (public_key secret) × ((heads : List UpdateId) × AfterAllHeads history heads × (length heads ≡ n) × (MAX_PREDS < n))
IsPlanCause ask history secret ops (Invalid reason operation) =
    (preds : List UpdateId) × MayMake history secret preds × IsJudged ask history (public_key secret) preds ops (Void reason operation)
IsPlanCause ask history secret ops (TooLong len) = ⊥
IsPlanCause ask history secret ops Full = ⊥
IsPlanCause ask history secret ops Spent = ⊥
IsPlanCause ask history secret ops (Taken id) = ⊥
IsPlanCause ask history secret ops (DiskFault side) = ⊥
IsPlanCause ask history secret ops Memory = Unit {0}

-- An update was made and stands last: it says this, by the key, after all heads, and is valid.
pub record MakesWith (ask : Meaning) (old : HistoryData) (secret : SecretData) (taken : List Bool) (says : Contents) (c : List ℕ) (id : UpdateId) (new : HistoryData) : Type 0 where
  pub preds : List UpdateId
  pub bytes : List ℕ
  pub after : AfterAllHeads old preds
  pub made : IsMadeWith old secret taken preds says c bytes
  pub members : AreMembers old.schema.rule (old.members ++ bytes ∷ [])
  pub valid : verdict_after ask old (node_of bytes) ≡ Valid
  pub id_is : id ≡ id_of bytes
  pub last : new ≡ record { schema = old.schema; members = old.members ++ bytes ∷ [] }

-- The same of operations that are given no note.
abbrev pub Makes : Meaning → HistoryData → SecretData → List Bool → List Op → List ℕ → UpdateId → HistoryData → Type 0
Makes ask old secret taken ops c id new = MakesWith ask old secret taken (plain ops) c id new

-- Fewer than two heads.
abbrev pub HasNoneToJoin : HistoryData → Type 0
HasNoneToJoin history = (heads : List UpdateId) × AreHeads (map entry_of history.members) heads × (length heads < 2)

-- Why heads were not joined, in order.
abbrev pub IsJoinCause : HistoryData → SecretData → List Bool → List ℕ → MakeFault → Type 0
IsJoinCause history secret taken c NotListed = ((preds : List UpdateId) × AfterLeastHeads history preds) × ¬ (IsListed history.schema.rule.authors (public_key secret))
IsJoinCause history secret taken c (TooManyHeads n) = ⊥
IsJoinCause history secret taken c (Invalid reason operation) = ⊥
IsJoinCause history secret taken c (TooLong len) = ⊥
IsJoinCause history secret taken c Full =
    (preds : List UpdateId) × AfterLeastHeads history preds × IsListed history.schema.rule.authors (public_key secret)
    × ¬ (HasRoom history (signed_length (body_by history (public_key secret) preds [])))
IsJoinCause history secret taken c Spent =
    (preds : List UpdateId) × AfterLeastHeads history preds × IsListed history.schema.rule.authors (public_key secret)
    × HasRoom history (signed_length (body_by history (public_key secret) preds [])) × (least_unused taken ≡ None)
IsJoinCause history secret taken c (Taken id) =
    (preds : List UpdateId) × AfterLeastHeads history preds × IsListed history.schema.rule.authors (public_key secret)
    × HasRoom history (signed_length (body_by history (public_key secret) preds []))
    × ((bytes : List ℕ) × IsMadeBy history secret taken preds [] c bytes × (id_of bytes ≡ id) × (holds (map entry_of history.members) id ≡ true))
IsJoinCause history secret taken c (DiskFault side) = (preds : List UpdateId) × AfterLeastHeads history preds
IsJoinCause history secret taken c Memory = Unit {0}

-- Heads were joined by an update without operations that stands last.
pub record Joins (old : HistoryData) (secret : SecretData) (taken : List Bool) (c : List ℕ) (id : UpdateId) (new : HistoryData) : Type 0 where
  pub preds : List UpdateId
  pub bytes : List ℕ
  pub after : AfterLeastHeads old preds
  pub made : IsMadeBy old secret taken preds [] c bytes
  pub members : AreMembers old.schema.rule (old.members ++ bytes ∷ [])
  pub id_is : id ≡ id_of bytes
  pub last : new ≡ record { schema = old.schema; members = old.members ++ bytes ∷ [] }

-- What joining answers.
abbrev pub JoinsTo : HistoryData → SecretData → List Bool → List ℕ → Option UpdateId → HistoryData → Type 0
JoinsTo old secret taken c None new = HasNoneToJoin old × (new ≡ old)
JoinsTo old secret taken c (Some id) new = Joins old secret taken c id new
