-- What a command comes to, and how it is said.
use Rattle.std.specs.Prelude.{◌≡◌, ◌⊎◌, ℕ, List, [], codes, Option, Ok, Err}
use Rattle.std.specs.Io.KnownBytes.{Appends}
use Rattle.bec_bytes.specs.Causes.{Rose}
use Rattle.confluence_test.specs.declared.refusal.SchemaRefusal.{SchemaRefusal}
use Rattle.confluence_test.specs.declared.refusal.SchemaRefusal.TheVariants as taking
use Rattle.bec_bytes.specs.declared.read_error.ReadError.{ReadError}
use Rattle.bec_bytes.specs.declared.read_error.ReadError.TheVariants as read_errors
use Rattle.update_stream.specs.declared.record_fault.RecordFault.TheVariants.{Check, Lacks, Full}
use Rattle.bec_disk.specs.declared.disk_error.DiskError.{DiskError}
use Rattle.bec_disk.specs.declared.disk_error.DiskError.TheVariants as disk_errors
use Rattle.key_index.specs.declared.faults.CreateKeyKind.{CreateKeyKind}
use Rattle.key_index.specs.declared.faults.CreateKeyKind.TheVariants as creating_key
use Rattle.replica.specs.declared.create_fault.CreateKind.{CreateKind}
use Rattle.replica.specs.declared.create_fault.CreateKind.TheVariants as creating
use Rattle.store_directory.specs.declared.open_refusal.OpenRefusal.{OpenRefusal}
use Rattle.store_directory.specs.declared.open_refusal.OpenRefusal.TheVariants as open_refusals
use Rattle.store_directory.specs.declared.store_refusal.StoreRefusal.{StoreRefusal}
use Rattle.store_directory.specs.declared.store_refusal.StoreRefusal.TheVariants as store_refusals
use Rattle.lms_tree.specs.LmsKind.{leaf_count}
use Rattle.lms_tree.specs.SecretKey.{SecretData}
use Rattle.replica.specs.declared.make_fault.MakeFault.{MakeFault}
use Rattle.replica.specs.declared.make_fault.MakeFault.TheVariants as make_faults
use Rattle.key_directory.specs.declared.key_refusal.KeyRefusal.{KeyRefusal}
use Rattle.key_directory.specs.declared.key_refusal.KeyRefusal.TheVariants as key_refusals
use Rattle.query.specs.declared.fault.QueryError.{QueryError}
use Rattle.query.specs.declared.fault.QueryError.TheVariants as query_errors
use Rattle.txn_text.specs.declared.fault.TextError.{TextError}
use Rattle.txn_text.specs.declared.fault.TextError.TheVariants as text_errors
use Rattle.outcomes.specs.declared.refusal.Refusal.{Refusal}
use Rattle.outcomes.specs.declared.refusal.Refusal.TheVariants.{Words, Record, CutSchema, Schema, NotConfluent, Query, QueryNotNamed, Transaction, Invalid, AuthorNotListed, UpdateTooLong, IdTaken, KeySpent, Heads, Peer, NotDoubled, BadSeal, InputTooLong, NoStore, StoreThere, BadStore, NoKey, KeyThere, BadKey, StoreFault, Stream, Memory}
use Rattle.outcomes.specs.declared.refusal.Refusal.TheVariants as refusals
use Rattle.schema_verdict.specs.declared.status.TheConstants.{DONE, REFUSED, NO_COMMAND, STORE_FAULT, STREAM_FAULT, OUT_OF_MEMORY, PEER, FULL, STORE}
use Rattle.outcomes.specs.Texts.{invalid_text, many_heads_text, peer_text, query_text, record_text, spent_text, transaction_text}
use Rattle.schema_verdict.specs.Texts.{refused_text, schema_text}
use Rattle.schema_verdict.specs.Verdict.{OutcomeOf}
use Rattle.schema_verdict.specs.Written.{Puts}
use Rattle.schema_verdict.specs.declared.refusal.VerdictRefusal.{VerdictRefusal}
use Rattle.schema_verdict.specs.declared.refusal.VerdictRefusal.TheVariants as verdicts

-- A command is done and prints a text, or it is refused.
abbrev pub Outcome : Type 0
Outcome = OutcomeOf Refusal

-- the status for a refusal
abbrev pub status_for : Refusal → ℕ
status_for Words = NO_COMMAND
status_for (Record n (Check fault)) = REFUSED
status_for (Record n (Lacks id)) = REFUSED
status_for (Record n Full) = FULL
status_for CutSchema = REFUSED
status_for (Schema fault) = REFUSED
status_for (NotConfluent schema which example) = REFUSED
status_for (Query fault) = REFUSED
status_for QueryNotNamed = REFUSED
status_for (Transaction fault) = REFUSED
status_for (Invalid reason operation) = REFUSED
status_for AuthorNotListed = REFUSED
status_for UpdateTooLong = REFUSED
status_for IdTaken = REFUSED
status_for refusals.Full = FULL
status_for (KeySpent count) = FULL
status_for (Heads count) = FULL
status_for (Peer fault) = PEER
status_for NotDoubled = REFUSED
status_for BadSeal = REFUSED
status_for InputTooLong = REFUSED
status_for NoStore = STORE
status_for StoreThere = STORE
status_for BadStore = STORE
status_for NoKey = STORE
status_for KeyThere = STORE
status_for BadKey = STORE
status_for StoreFault = STORE_FAULT
status_for Stream = STREAM_FAULT
status_for Memory = OUT_OF_MEMORY

-- its lines
abbrev pub text_for : Refusal → List ℕ
text_for Words = codes "! words\n"
text_for (Record n fault) = record_text n fault
text_for CutSchema = codes "! schema cut\n"
text_for (Schema fault) = schema_text fault
text_for (NotConfluent schema which example) = refused_text schema.tables which example
text_for (Query fault) = query_text fault
text_for QueryNotNamed = codes "! query not named\n"
text_for (Transaction fault) = transaction_text fault
text_for (Invalid reason operation) = invalid_text reason operation
text_for AuthorNotListed = codes "! author not listed\n"
text_for UpdateTooLong = codes "! update too long\n"
text_for IdTaken = codes "! id taken\n"
text_for refusals.Full = codes "! full\n"
text_for (KeySpent count) = spent_text count
text_for (Heads count) = many_heads_text count
text_for (Peer fault) = peer_text fault
text_for NotDoubled = codes "! not doubled\n"
text_for BadSeal = codes "! bad seal\n"
text_for InputTooLong = codes "! input too long\n"
text_for NoStore = codes "! no store\n"
text_for StoreThere = codes "! store there\n"
text_for BadStore = codes "! bad store\n"
text_for NoKey = codes "! no key\n"
text_for KeyThere = codes "! key there\n"
text_for BadKey = codes "! bad key\n"
text_for StoreFault = codes "! store fault\n"
text_for Stream = codes "! stream fault\n"
text_for Memory = []

-- the status of an outcome
abbrev pub status_of : Outcome → ℕ
status_of (Ok text) = DONE
status_of (Err refusal) = status_for refusal

-- its text
abbrev pub text_of : Outcome → List ℕ
text_of (Ok text) = text.items
text_of (Err refusal) = text_for refusal

-- the refusals that errors of the layers below become
abbrev pub from_reading : ReadError → Refusal
from_reading read_errors.Failed = Stream
from_reading read_errors.Memory = Memory

abbrev pub from_store : StoreRefusal → Refusal
from_store store_refusals.NoStore = NoStore
from_store store_refusals.BadStore = BadStore
from_store store_refusals.DiskFault = StoreFault
from_store store_refusals.Memory = Memory

abbrev pub from_key : KeyRefusal → Refusal
from_key key_refusals.NoKey = NoKey
from_key key_refusals.BadKey = BadKey
from_key key_refusals.DiskFault = StoreFault
from_key key_refusals.Memory = Memory

abbrev pub from_open : OpenRefusal → Refusal
from_open (open_refusals.Store why) = from_store why
from_open (open_refusals.Key why) = from_key why

abbrev pub from_query : QueryError → Refusal
from_query (query_errors.Fault fault) = Query fault
from_query query_errors.Memory = Memory

abbrev pub from_text : TextError → Refusal
from_text (text_errors.Fault fault) = Transaction fault
from_text text_errors.Memory = Memory

-- of a key that has so many indices
abbrev pub from_make : SecretData → MakeFault → Refusal
from_make secret make_faults.NotListed = AuthorNotListed
from_make secret (make_faults.TooManyHeads count) = Heads count
from_make secret (make_faults.Invalid reason operation) = Invalid reason operation
from_make secret (make_faults.TooLong len) = UpdateTooLong
from_make secret make_faults.Full = refusals.Full
from_make secret make_faults.Spent = KeySpent (leaf_count secret.lms)
from_make secret (make_faults.Taken id) = IdTaken
from_make secret (make_faults.DiskFault side) = StoreFault
from_make secret make_faults.Memory = Memory

abbrev pub from_disk : DiskError → Refusal
from_disk disk_errors.DiskFault = StoreFault
from_disk disk_errors.Memory = Memory

abbrev pub from_creating : CreateKind → Refusal
from_creating creating.NotEmpty = StoreThere
from_creating (creating.BadSchema fault) = Schema fault
from_creating (creating.NotConfluent schema which example) = NotConfluent schema which example
from_creating creating.DiskFault = StoreFault
from_creating creating.Memory = Memory

abbrev pub from_creating_key : CreateKeyKind → Refusal
from_creating_key creating_key.KeyThere = KeyThere
from_creating_key creating_key.DiskFault = StoreFault
from_creating_key creating_key.Memory = Memory

abbrev pub from_taking : SchemaRefusal → Refusal
from_taking (taking.Schema fault) = Schema fault
from_taking (taking.NotConfluent schema which example) = NotConfluent schema which example
from_taking taking.Memory = Memory

abbrev pub from_verdict : VerdictRefusal → Refusal
from_verdict (verdicts.NotTaken why) = from_taking why
from_verdict verdicts.Stream = Stream

-- What may come in place of an answer: memory ran out, or the source failed, whose count of faults rose.
abbrev pub IsFault : ℕ → ℕ → Refusal → Type 0
IsFault old new refusal = (refusal ≡ Memory) ⊎ ((refusal ≡ Stream) × Rose old new)

-- The outcome is the answer to what the source has left before and after, or a fault.
abbrev pub ComesTo : (Option (List ℕ) → Option (List ℕ) → Outcome → Type 0) → Option (List ℕ) → Option (List ℕ) → ℕ → ℕ → Outcome → Type 0
ComesTo Answer before after old new (Ok text) = Answer before after (Ok text)
ComesTo Answer before after old new (Err refusal) = Answer before after (Err refusal) ⊎ IsFault old new refusal

-- An outcome is said: its text is put. Without memory nothing is written.
abbrev pub Says : ℕ → ℕ → Option (List ℕ) → Option (List ℕ) → Outcome → ℕ → Type 0
Says old new held held_new (Err Memory) status = (status ≡ OUT_OF_MEMORY) × Appends held held_new []
Says old new held held_new outcome status = Puts old new held held_new (status_of outcome) (text_of outcome) status

-- The lines of a refusal may lack memory that are made of what it has. Every other refusal has always the same line, which takes none.
abbrev pub MayLackMemory : Outcome → Type 0
MayLackMemory (Err (Record n fault)) = Unit {0}
MayLackMemory (Err (Schema fault)) = Unit {0}
MayLackMemory (Err (NotConfluent schema which example)) = Unit {0}
MayLackMemory (Err (Query fault)) = Unit {0}
MayLackMemory (Err (Transaction fault)) = Unit {0}
MayLackMemory (Err (Invalid reason operation)) = Unit {0}
MayLackMemory (Err (KeySpent count)) = Unit {0}
MayLackMemory (Err (Heads count)) = Unit {0}
MayLackMemory (Err Memory) = Unit {0}
MayLackMemory outcome = ⊥

-- An outcome is said, or want of memory is said in place of a refusal.
abbrev pub Ends : ℕ → ℕ → Option (List ℕ) → Option (List ℕ) → Outcome → ℕ → Type 0
Ends old new held held_new outcome status =
    Says old new held held_new outcome status ⊎ (MayLackMemory outcome × Says old new held held_new (Err Memory) status)
