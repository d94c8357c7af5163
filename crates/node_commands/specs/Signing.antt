-- What the commands that make an update by the key of a directory answer, and what they leave.
use Rattle.std.specs.Prelude.{◌≡◌, ◌≢◌, ◌⊎◌, ℕ, ◌+◌, ◌≤◌, Bool, List, [], ◌∷◌, ◌++◌, IsTrue, Ok, Err, Option, Some, None, slice_set}
use Rattle.rand_core.specs.Stream.{Stream}
use Rattle.row_check.specs.Checksum.{is_luhn}
use Rattle.bec_bytes.specs.Causes.{Rose}
use Rattle.bec_disk.specs.declared.part.Part.TheVariants.{Schema, Updates, Key, Used}
use Rattle.bec_disk.specs.Disk.{DiskState, IsSettled, LeavesSince, moments}
use Rattle.bec_disk.specs.Images.{IsTorn}
use Rattle.bec_disk.specs.Shelf.{PartState, ShelfState, out, stands}
use Rattle.update_model.specs.declared.op.Op.{Op}
use Rattle.update_model.specs.declared.update_id.UpdateId.{UpdateId}
use Rattle.lms_tree.specs.SecretKey.{SecretData}
use Rattle.history.specs.Histories.{HistoryData}
use Rattle.key_index.specs.KeyState.{KeyState}
use Rattle.key_index.specs.Used.{least_unused, used_in}
use Rattle.replica.specs.declared.make_fault.MakeFault.{MakeFault}
use Rattle.replica.specs.declared.contents.Contents.{Contents}
use Rattle.replica.specs.Making.{HasNoneToJoin, IsJoinCause, IsMakeCauseWith, Joins, MakesWith, saying}
use Rattle.replica.specs.Replicas.{ReplicaState}
use Rattle.replica.specs.Signing.{SignsAtLeast, TriesLeast}
use Rattle.key_directory.specs.Keys.{KeepsUsed, ReadsAsKey, WorksWith}
use Rattle.key_directory.specs.Parts.{IsUntouched, KeepsAllBut, part_in, reading}
use Rattle.store_directory.specs.Stores.{StoreData}
use Rattle.txn_text.specs.declared.fault.TextFault.{TextFault}
use Rattle.txn_text.specs.declared.limits.TheConstants.{MAX_TRANSACTION_BYTES}
use Rattle.txn_text.specs.Transactions.{Reads, FirstFault}
use Rattle.outcomes.specs.declared.refusal.Refusal.{Refusal}
use Rattle.outcomes.specs.declared.refusal.Refusal.TheVariants.{BadKey, IdTaken, Memory, NoKey, StoreFault, Transaction}
use Rattle.outcomes.specs.declared.refusal.Refusal.TheVariants as refusals
use Rattle.outcomes.specs.Comes.{IsShelfFault, RunsStore, is_done, IsRefused, IsSourceFault}
use Rattle.schema_verdict.specs.Inputs.{IsWholeText}
use Rattle.outcomes.specs.Outcome.{IsFault, Outcome, from_make}
use Rattle.schema.specs.Data.{SchemaData}
use Rattle.schema_verdict.specs.Verdict.{Prints}
use Rattle.outcomes.specs.Outside.{Outside}
use Rattle.outcomes.specs.StoreAnswers.{HasStore, Readings, RefusesStore, after_bytes, next_bytes, RefusesKey}
use Rattle.outcomes.specs.Texts.{line_of}
use Rattle.outcomes.specs.OpenStores.{WorksFrom}

-- the history with one more update, the last
abbrev pub with_update : HistoryData → List ℕ → HistoryData
with_update history bytes = record { schema = history.schema; members = history.members ++ bytes ∷ [] }

-- the schema and the updates of a store
abbrev pub history_of : StoreData → HistoryData
history_of store = record { schema = store.schema; members = store.members }

-- the indices of a key that a part Used has used
abbrev pub taken_of : Option (List ℕ) → List Bool
taken_of None = []
taken_of (Some used) = used_in used

-- An answer over the updates of a store, a key, and which of its indices are used, with what is added to the updates.
abbrev pub SignAnswer : Type 1
SignAnswer = HistoryData → SecretData → List Bool → List (List ℕ) → Outcome → Type 0

-- What is answered where an update that says this is to be made, with C: it is made, stands last, and its id is printed; or why it is not made.
pub data MakeAnswer (says : Contents) (c : List ℕ) (history : HistoryData) (secret : SecretData) (taken : List Bool) (added : List (List ℕ)) (outcome : Outcome) : Type 0 where
  made : (id : UpdateId) (bytes : List ℕ) → MakesWith is_luhn history secret taken says c id (with_update history bytes) → added ≡ bytes ∷ [] → Prints outcome (line_of id)
      → MakeAnswer says c history secret taken added outcome
  not_made : (why : MakeFault) → IsMakeCauseWith is_luhn history secret taken says c why → IsRefused outcome → added ≡ [] → outcome ≡ Err (from_make secret why)
      → MakeAnswer says c history secret taken added outcome

-- What `apply` with a note, or without one, answers to what the source has left before and after, and to the generator's next bytes: the text is no
-- transaction, or an update of its operations is to be made that has this note.
pub data ApplyAnswer (note before after : Option (List ℕ)) (stream : Stream) (history : HistoryData) (secret : SecretData) (taken : List Bool) (added : List (List ℕ)) (outcome : Outcome) : Type 0 where
  bad_text : (text : List ℕ) (fault : TextFault) → IsWholeText MAX_TRANSACTION_BYTES before after text → FirstFault history.schema text fault.kind fault.line fault.column → added ≡ []
      → outcome ≡ Err (Transaction fault) → ApplyAnswer note before after stream history secret taken added outcome
  asked : (text : List ℕ) (ops : List Op) → IsWholeText MAX_TRANSACTION_BYTES before after text → Reads history.schema text ops
      → MakeAnswer (saying note ops) (next_bytes stream) history secret taken added outcome → ApplyAnswer note before after stream history secret taken added outcome

-- What `join` answers to the generator's next bytes: the heads are joined by an update that stands last, and its id is printed; or there are fewer than
-- two, and nothing is printed; or why they are not joined.
pub data JoinAnswer (stream : Stream) (history : HistoryData) (secret : SecretData) (taken : List Bool) (added : List (List ℕ)) (outcome : Outcome) : Type 0 where
  joined : (id : UpdateId) (bytes : List ℕ) → Joins history secret taken (next_bytes stream) id (with_update history bytes) → added ≡ bytes ∷ [] → Prints outcome (line_of id)
      → JoinAnswer stream history secret taken added outcome
  none : HasNoneToJoin history → added ≡ [] → Prints outcome [] → JoinAnswer stream history secret taken added outcome
  not_joined : (why : MakeFault) → IsJoinCause history secret taken (next_bytes stream) why → IsRefused outcome → added ≡ [] → outcome ≡ Err (from_make secret why)
      → JoinAnswer stream history secret taken added outcome

-- What is answered over an open store, by what the parts of the key read as. Where the key is refused, the source and the generator are not used.
pub data KeyedAnswer (Unused : Type 0) (Answer : SignAnswer) (key used : Option (List ℕ)) (history : HistoryData) (added : List (List ℕ)) (outcome : Outcome) : Type 0 where
  without_key : (refusal : Refusal) → RefusesKey key used refusal → Unused → added ≡ [] → outcome ≡ Err refusal → KeyedAnswer Unused Answer key used history added outcome
  with_key : (secret : SecretData) → ReadsAsKey key used secret → Answer history secret (taken_of used) added outcome → KeyedAnswer Unused Answer key used history added outcome

-- What is answered by what the parts of a directory read as. The store is judged before the key.
pub data StoreAnswer (Unused : Type 0) (Answer : SignAnswer) (parts : Readings) (added : List (List ℕ)) (outcome : Outcome) : Type 0 where
  without_store : (refusal : Refusal) → RefusesStore parts refusal → Unused → added ≡ [] → outcome ≡ Err refusal → StoreAnswer Unused Answer parts added outcome
  with_store : (store : StoreData) → HasStore parts store → KeyedAnswer Unused Answer parts.key parts.used (history_of store) added outcome → StoreAnswer Unused Answer parts added outcome

-- This holds where nothing was added, and that where something was.
abbrev pub WhereAdded : List (List ℕ) → Type 0 → Type 0 → Type 0
WhereAdded [] This That = This
WhereAdded (bytes ∷ others) This That = That

-- What a key was used for, by what was added and by the outcome: nothing, or its least unused index was tried, or a message was signed at that
-- index. A message was signed where an update was added, and where its id is taken. Where the store failed, the disk tells: the log's fails after a
-- message was signed, the key's after the index was tried, every other before. Memory may run out before or after. With every other outcome the key
-- was not used.
abbrev pub UsesKey : (NotUsed Tries Signs : Type 0) → List (List ℕ) → Outcome → Type 0
UsesKey NotUsed Tries Signs added (Ok text) = WhereAdded added NotUsed Signs
UsesKey NotUsed Tries Signs added (Err IdTaken) = Signs
UsesKey NotUsed Tries Signs added (Err StoreFault) = NotUsed ⊎ (Tries ⊎ Signs)
UsesKey NotUsed Tries Signs added (Err Memory) = NotUsed ⊎ (Tries ⊎ Signs)
UsesKey NotUsed Tries Signs added (Err refusal) = NotUsed

-- The least index of the part Used that was not used was tried. Whatever a crash leaves at each moment of it, and whatever the part reads as, no byte
-- but that of this index differs.
pub record TriesLeastIn (old new : PartState) : Type 0 where
  pub index : ℕ
  pub before : DiskState
  pub after : DiskState
  pub stood : old ≡ stands before
  pub in_place : new ≡ stands after
  pub least : least_unused (used_in before.seen) ≡ Some index
  pub any_moment : LeavesSince (moments before) (moments after) (IsTorn index (index + 1) before.seen)
  pub reads : IsTorn index (index + 1) before.seen after.seen

-- A message was signed at it: the byte of this index is 1 and every other is as it was, and they are on the disk.
pub record SignsAtLeastIn (old new : PartState) : Type 0 where
  pub tries : TriesLeastIn old new
  pub reads : tries.after.seen ≡ slice_set tries.before.seen tries.index 1
  pub settled : IsSettled tries.after

-- The same of the part Used, by how it was and how it is.
abbrev pub UsesKeyIn : PartState → PartState → List (List ℕ) → Outcome → Type 0
UsesKeyIn old new added outcome = UsesKey (IsUntouched old new) (TriesLeastIn old new) (SignsAtLeastIn old new) added outcome

-- How far the generator went, by the outcome. It was not used where there is no store or no key, or the text is no transaction or was not read; before
-- the store failed or memory ran out it may have been used; with every other outcome its next 32 bytes were, and no more.
abbrev pub DrawsFor : Stream → Stream → Outcome → Type 0
DrawsFor old new (Err refusals.NoStore) = new ≡ old
DrawsFor old new (Err refusals.BadStore) = new ≡ old
DrawsFor old new (Err NoKey) = new ≡ old
DrawsFor old new (Err BadKey) = new ≡ old
DrawsFor old new (Err (Transaction fault)) = new ≡ old
DrawsFor old new (Err refusals.Stream) = new ≡ old
DrawsFor old new (Err StoreFault) = (new ≡ old) ⊎ (new ≡ after_bytes old)
DrawsFor old new (Err Memory) = (new ≡ old) ⊎ (new ≡ after_bytes old)
DrawsFor old new outcome = new ≡ after_bytes old

-- There is no store or no key, or a bad one.
abbrev pub IsUnopened : Outcome → Type 0
IsUnopened (Err refusals.NoStore) = Unit {0}
IsUnopened (Err refusals.BadStore) = Unit {0}
IsUnopened (Err NoKey) = Unit {0}
IsUnopened (Err BadKey) = Unit {0}
IsUnopened outcome = ⊥

-- The outcome is the answer over some updates and some key, or there is no store or no key, or a fault came in its place.
pub data AnswersSomeKey (Answer : SignAnswer) (Fault : Outcome → Type 0) (added : List (List ℕ)) (outcome : Outcome) : Type 0 where
  answered : (history : HistoryData) (secret : SecretData) (taken : List Bool) → Answer history secret taken added outcome → AnswersSomeKey Answer Fault added outcome
  unopened : IsUnopened outcome → added ≡ [] → AnswersSomeKey Answer Fault added outcome
  by_fault : Fault outcome → added ≡ [] → AnswersSomeKey Answer Fault added outcome

-- A command that makes an update by the key of a directory. Its part Key is at most read. Of its part Used the least unused index is used where a
-- message was signed, and no other; what was used stays so at each moment. In place of an answer comes a fault of the shelf, or what else may stop it.
-- Whether the shelf tells what it has or not, the outcome is an answer over some updates and some key, or one of those.
pub record MakesUpdate (Unused : Type 0) (Answer : SignAnswer) (Stops : Outcome → Type 0) (stream stream_new : Stream) (dir : List ℕ) (before after : ShelfState) (old new : ℕ) (outcome : Outcome) : Type 0 where
  pub runs : RunsStore (λ given. IsShelfFault old new given ⊎ Stops given) (StoreAnswer Unused Answer) (Schema ∷ Updates ∷ Key ∷ Used ∷ []) dir before after outcome
  pub key : IsTrue before.tells → IsUntouched (part_in before dir Key) (part_in after dir Key)
  pub used : IsTrue before.tells → KeepsUsed (part_in before dir Used) (part_in after dir Used)
  pub uses : IsTrue before.tells → UsesKeyIn (part_in before dir Used) (part_in after dir Used) runs.added outcome
  pub ends : AnswersSomeKey Answer (λ given. IsShelfFault old new given ⊎ Stops given) runs.added outcome
  pub draws : DrawsFor stream stream_new outcome

-- Nothing else stops it.
abbrev pub IsNoStop : Outcome → Type 0
IsNoStop outcome = ⊥

-- A refusal that comes before operations are judged: of the store, of the key, of the text, of the author, or of the number of heads.
abbrev pub IsBeforeOperations : Outcome → Type 0
IsBeforeOperations (Err refusals.NoStore) = Unit {0}
IsBeforeOperations (Err refusals.BadStore) = Unit {0}
IsBeforeOperations (Err NoKey) = Unit {0}
IsBeforeOperations (Err BadKey) = Unit {0}
IsBeforeOperations (Err (Transaction fault)) = Unit {0}
IsBeforeOperations (Err refusals.AuthorNotListed) = Unit {0}
IsBeforeOperations (Err (refusals.Heads count)) = Unit {0}
IsBeforeOperations outcome = ⊥

-- The operations are judged, and are invalid.
abbrev pub IsInvalid : Outcome → Type 0
IsInvalid (Err (refusals.Invalid reason operation)) = Unit {0}
IsInvalid outcome = ⊥

-- What `apply` with this note, or without one, may answer to an input, whatever is left of it, and whether what an answer leaves unused was used or not.
abbrev pub MayApply : Option (List ℕ) → List ℕ → Stream → Readings → Outcome → Type 0
MayApply note input stream parts outcome = (after : Option (List ℕ)) × (added : List (List ℕ)) × StoreAnswer (Unit {0}) (ApplyAnswer note (Some input) after stream) parts added outcome

-- Of these the answers that exclude each other one: each refusal that comes before the operations are judged; and every answer, where none is that
-- they are invalid.
abbrev pub IsSureOfApply : Option (List ℕ) → List ℕ → Stream → Readings → Outcome → Type 0
IsSureOfApply note input stream parts outcome =
    MayApply note input stream parts outcome × (IsBeforeOperations outcome ⊎ ((other : Outcome) → MayApply note input stream parts other → IsInvalid other → ⊥))

-- `apply` over the store of a directory, with this note or without one.
abbrev pub Applies : {S H R : Type 0} → List ℕ → Option (List ℕ) → Outside S H R → Outside S H R → Outcome → Type 0
Applies dir note before after outcome =
    MakesUpdate ((after.source ≡ before.source) × (after.random ≡ before.random)) (ApplyAnswer note before.left after.left before.stream) (IsSourceFault before.source_faults after.source_faults)
    before.stream after.stream dir before.store after.store before.shelf_faults after.shelf_faults outcome

-- `join`, which does not use the source.
pub record JoinsHeads {S H R : Type 0} (dir : List ℕ) (before after : Outside S H R) (outcome : Outcome) : Type 0 where
  pub joins : MakesUpdate (after.random ≡ before.random) (JoinAnswer before.stream) IsNoStop before.stream after.stream dir before.store after.store before.shelf_faults after.shelf_faults outcome
  pub source : after.source ≡ before.source

-- ---- the same of what is open

-- What may come in place of an answer over an open store and key: memory ran out, or it was stopped, or a disk of either failed, whose count rose.
abbrev pub IsOpenFault : (Outcome → Type 0) → ReplicaState → KeyState → ReplicaState → KeyState → Outcome → Type 0
IsOpenFault Stops old key new key_new outcome =
    (outcome ≡ Err Memory) ⊎ (Stops outcome ⊎ ((outcome ≡ Err StoreFault) × (Rose old.log.faults new.log.faults ⊎ Rose key.parts.used_faults key_new.parts.used_faults)))

-- A command over an open store and an open key.
pub record SignsOpen (Answer : SignAnswer) (Stops : Outcome → Type 0) (stream stream_new : Stream) (old : ReplicaState) (key : KeyState) (new : ReplicaState) (key_new : KeyState) (outcome : Outcome) : Type 0 where
  pub added : List (List ℕ)
  pub comes : Answer old.history key.secret key.taken added outcome ⊎ (IsOpenFault Stops old key new key_new outcome × (added ≡ []))
  pub works : WorksFrom old new added (is_done outcome)
  pub works_with : WorksWith key key_new
  pub uses : UsesKey (key_new ≡ key) (TriesLeast key key_new) (SignsAtLeast key key_new) added outcome
  pub draws : DrawsFor stream stream_new outcome
  pub log_later : old.log.faults ≤ new.log.faults
  pub key_later : key.parts.used_faults ≤ key_new.parts.used_faults

-- What may come in place of an answer over an open store and the key of a directory.
abbrev pub IsInnerFault : (Outcome → Type 0) → ℕ → ℕ → ReplicaState → ReplicaState → Outcome → Type 0
IsInnerFault Stops faults faults_new old new outcome = (outcome ≡ Err Memory) ⊎ (Stops outcome ⊎ ((outcome ≡ Err StoreFault) × (Rose faults faults_new ⊎ Rose old.log.faults new.log.faults)))

-- A command over an open store, by the key of the directory.
pub record SignsIn (Unused : Type 0) (Answer : SignAnswer) (Stops : Outcome → Type 0) (stream stream_new : Stream) (dir : List ℕ) (before after : ShelfState) (faults faults_new : ℕ) (old new : ReplicaState) (outcome : Outcome) : Type 0 where
  pub added : List (List ℕ)
  pub comes : (IsTrue before.tells → KeyedAnswer Unused Answer (reading (part_in before dir Key)) (reading (part_in before dir Used)) old.history added outcome)
      ⊎ (IsInnerFault Stops faults faults_new old new outcome × (added ≡ []))
  pub ends : AnswersSomeKey Answer (IsInnerFault Stops faults faults_new old new) added outcome
  pub draws : DrawsFor stream stream_new outcome
  pub works : WorksFrom old new added (is_done outcome)
  pub tells : after.tells ≡ before.tells
  pub key : IsTrue before.tells → IsUntouched (part_in before dir Key) (part_in after dir Key)
  pub used : IsTrue before.tells → KeepsUsed (part_in before dir Used) (part_in after dir Used)
  pub uses : IsTrue before.tells → UsesKeyIn (part_in before dir Used) (part_in after dir Used) added outcome
  pub key_home : IsTrue before.tells → part_in after dir Key ≢ out
  pub used_home : IsTrue before.tells → part_in after dir Used ≢ out
  pub others : IsTrue before.tells → KeepsAllBut (Key ∷ Used ∷ []) dir before after
  pub later : faults ≤ faults_new
  pub log_later : old.log.faults ≤ new.log.faults

-- These are the operations of the text that was read.
pub record TakesText (before after : Option (List ℕ)) (schema : SchemaData) (ops : List Op) : Type 0 where
  pub text : List ℕ
  pub whole : IsWholeText MAX_TRANSACTION_BYTES before after text
  pub reads : Reads schema text ops

-- The text that was read is no transaction, and this is its first fault.
pub record FaultsText (before after : Option (List ℕ)) (schema : SchemaData) (refusal : Refusal) : Type 0 where
  pub text : List ℕ
  pub fault : TextFault
  pub whole : IsWholeText MAX_TRANSACTION_BYTES before after text
  pub first : FirstFault schema text fault.kind fault.line fault.column
  pub is : refusal ≡ Transaction fault

-- Why no operations were read: by the text, or the source failed, or memory ran out.
abbrev pub StopsReading : Option (List ℕ) → Option (List ℕ) → ℕ → ℕ → SchemaData → Refusal → Type 0
StopsReading before after old new schema refusal = FaultsText before after schema refusal ⊎ IsFault old new refusal
