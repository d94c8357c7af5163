-- Errors of layers below, as they are told here.
use Rattle.std.proofs.Common.{◌≡◌, ◌⊎◌, inl, inr, ℕ, ◌<◌, ◌≤◌, List, map, Err, refl, sym, subst, ◌∙◌}
use Rattle.std.proofs.lemmas.Bool.{cases_lt}
use Rattle.bec_bytes.specs.Causes.{Rose}
use Rattle.bec_disk.specs.Disk.{DiskState}
use Rattle.bec_disk.specs.declared.disk_error.DiskError.{DiskError}
use Rattle.bec_disk.specs.declared.disk_error.DiskError.TheVariants as disk_errors
use Rattle.confluence_test.specs.declared.refusal.SchemaRefusal.{SchemaRefusal}
use Rattle.confluence_test.specs.declared.refusal.SchemaRefusal.TheVariants.{Memory, NotConfluent, Schema}
use Rattle.ready_batch.specs.declared.add_fault.AddFault.{AddFault}
use Rattle.ready_batch.specs.declared.add_fault.AddFault.TheVariants as adding
use Rattle.schema.specs.Data.{Meaning}
use Rattle.update_check.specs.Holding.{Commits}
use Rattle.update_check.specs.declared.holder.CommitFault.{CommitFault}
use Rattle.update_codec.specs.Outcome.{Refuses, Writes}
use Rattle.update_codec.specs.Parts.{entry_of}
use Rattle.update_codec.specs.Spelling.{message, signed_length}
use Rattle.update_codec.specs.declared.encode_error.EncodeError.{EncodeError}
use Rattle.update_codec.specs.declared.encode_error.EncodeError.TheVariants as encoding
use Rattle.update_codec.specs.declared.limits.TheConstants.{UPDATE_LIMIT}
use Rattle.update_model.specs.Form.{BodyData}
use Rattle.update_model.specs.Batch.{IsTooMuch, store_limits}
use Rattle.replica.specs.Faults.{adding_fault, batch_fault, creating_kind, declaring_kind, message_fault, opening_kind, tail_fault}
use Rattle.replica.specs.Making.{IsAddCause, IsMessageCause}
use Rattle.replica.specs.Opening.{IsCreateCause, IsOpenCause, WritesNothing}
use Rattle.replica.specs.declared.create_fault.CreateKind.{CreateKind}
use Rattle.replica.specs.declared.create_fault.CreateKind.TheVariants as creating
use Rattle.replica.specs.declared.make_fault.MakeFault.{MakeFault}
use Rattle.replica.specs.declared.make_fault.MakeFault.TheVariants as making
use Rattle.replica.specs.declared.make_fault.Side.TheVariants.{Log}
use Rattle.replica.specs.declared.open_fault.OpenKind.{OpenKind}
use Rattle.replica.specs.declared.open_fault.OpenKind.TheVariants as opening

-- ---- a disk, where a store is opened

pub open_cause : (ask : Meaning) (part : DiskState) (error : DiskError) (kind : OpenKind) → kind ≡ opening_kind error → IsOpenCause ask part kind
open_cause ask part disk_errors.DiskFault kind is = subst (IsOpenCause ask part) (sym is) tt
open_cause ask part disk_errors.Memory kind is = subst (IsOpenCause ask part) (sym is) tt

pub open_disk : (error : DiskError) (kind : OpenKind) → kind ≡ opening_kind error → kind ≡ opening.DiskFault → error ≡ disk_errors.DiskFault
open_disk disk_errors.DiskFault kind is e = refl
open_disk disk_errors.Memory kind is e = absurd cc

-- ---- a disk, where a store is created

pub create_cause : (ask : Meaning) (part : DiskState) (text : List ℕ) (error : DiskError) (kind : CreateKind) → kind ≡ creating_kind error → IsCreateCause ask part text kind
create_cause ask part text disk_errors.DiskFault kind is = subst (IsCreateCause ask part text) (sym is) tt
create_cause ask part text disk_errors.Memory kind is = subst (IsCreateCause ask part text) (sym is) tt

pub create_disk : (error : DiskError) (kind : CreateKind) → kind ≡ creating_kind error → kind ≡ creating.DiskFault → error ≡ disk_errors.DiskFault
create_disk disk_errors.DiskFault kind is e = refl
create_disk disk_errors.Memory kind is e = absurd cc

pub create_writes : (error : DiskError) (kind : CreateKind) → kind ≡ creating_kind error → WritesNothing kind → ⊥
create_writes disk_errors.DiskFault kind is w = subst WritesNothing is w
create_writes disk_errors.Memory kind is w = subst WritesNothing is w

pub ruleset creates = (create_cause, create_disk, create_writes)

-- ---- a refusal of a text, where a store is opened

pub declares_two : (refusal : SchemaRefusal) (kind : OpenKind) → kind ≡ declaring_kind refusal → (kind ≡ opening.BadSchema) ⊎ (kind ≡ opening.Memory)
declares_two (Schema fault) kind is = inl is
declares_two (NotConfluent schema which example) kind is = inl is
declares_two Memory kind is = inr is

pub bad_not_memory : (refusal : SchemaRefusal) (kind : OpenKind) → kind ≡ declaring_kind refusal → kind ≡ opening.BadSchema → refusal ≡ Memory → ⊥
bad_not_memory (Schema fault) kind is bad e = cc
bad_not_memory (NotConfluent schema which example) kind is bad e = cc
bad_not_memory Memory kind is bad e = let never : opening.Memory ≡ opening.BadSchema = sym is ∙ bad in cc

-- ---- a batch

pub batch_refused : (before batch after : List (List ℕ)) (fault : AddFault) (why : CommitFault) (faults now : ℕ) → why ≡ batch_fault fault
    → (fault ≡ adding.Full → IsTooMuch store_limits (map entry_of before) (map entry_of batch)) → after ≡ before → Commits store_limits before batch (Err why) faults now after
batch_refused before batch after adding.Full why faults now is full same =
    subst (λ (w : CommitFault). Commits store_limits before batch (Err w) faults now after) (sym is) (full refl, same)
batch_refused before batch after adding.Memory why faults now is full same =
    subst (λ (w : CommitFault). Commits store_limits before batch (Err w) faults now after) (sym is) same

pub tail_refused : (before batch after : List (List ℕ)) (error : DiskError) (why : CommitFault) (faults now : ℕ) → why ≡ tail_fault error
    → (error ≡ disk_errors.DiskFault → Rose faults now) → after ≡ before → Commits store_limits before batch (Err why) faults now after
tail_refused before batch after disk_errors.DiskFault why faults now is rose same =
    subst (λ (w : CommitFault). Commits store_limits before batch (Err w) faults now after) (sym is) (rose refl, same)
tail_refused before batch after disk_errors.Memory why faults now is rose same =
    subst (λ (w : CommitFault). Commits store_limits before batch (Err w) faults now after) (sym is) same

pub ruleset commits = (batch_refused, tail_refused)

-- ---- an update that was signed

pub add_cause : (error : DiskError) (why : MakeFault) → why ≡ adding_fault error → IsAddCause why
add_cause disk_errors.DiskFault why is = subst IsAddCause (sym is) refl
add_cause disk_errors.Memory why is = subst IsAddCause (sym is) tt

pub add_disk : (error : DiskError) (why : MakeFault) → why ≡ adding_fault error → why ≡ making.DiskFault Log → error ≡ disk_errors.DiskFault
add_disk disk_errors.DiskFault why is e = refl
add_disk disk_errors.Memory why is e = absurd cc

-- ---- a body

pub message_cause : (body : BodyData) (error : EncodeError) (why : MakeFault) → why ≡ message_fault error → (signed_length body ≤ UPDATE_LIMIT → Writes (Err error) (message body))
    → (UPDATE_LIMIT < signed_length body → Refuses (Err error) (signed_length body)) → IsMessageCause body why
message_cause body encoding.Memory why is short long = subst (IsMessageCause body) (sym is) tt
message_cause body (encoding.TooLong refused) why is short long = subst (IsMessageCause body) (sym is) (elim (cases_lt UPDATE_LIMIT (signed_length body)) [
  | inl over ↦ (sym (long over), subst (λ (n : ℕ). UPDATE_LIMIT < n) (sym (long over)) over)
  | inr fits ↦ absurd (short fits)
])
