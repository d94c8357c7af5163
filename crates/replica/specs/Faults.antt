-- What the errors of layers below are here. Want of memory alone is want of memory.
use Rattle.bec_disk.specs.declared.disk_error.DiskError.{DiskError}
use Rattle.bec_disk.specs.declared.disk_error.DiskError.TheVariants as disk_errors
use Rattle.confluence_test.specs.declared.refusal.SchemaRefusal.{SchemaRefusal}
use Rattle.confluence_test.specs.declared.refusal.SchemaRefusal.TheVariants as refusals
use Rattle.ready_batch.specs.declared.add_fault.AddFault.{AddFault}
use Rattle.ready_batch.specs.declared.add_fault.AddFault.TheVariants as adding
use Rattle.update_check.specs.declared.holder.CommitFault.{CommitFault}
use Rattle.update_check.specs.declared.holder.CommitFault.TheVariants as committing
use Rattle.update_codec.specs.declared.encode_error.EncodeError.{EncodeError}
use Rattle.update_codec.specs.declared.encode_error.EncodeError.TheVariants as encoding
use Rattle.replica.specs.declared.create_fault.CreateKind.{CreateKind}
use Rattle.replica.specs.declared.create_fault.CreateKind.TheVariants as creating
use Rattle.replica.specs.declared.make_fault.MakeFault.{MakeFault}
use Rattle.replica.specs.declared.make_fault.MakeFault.TheVariants as making
use Rattle.replica.specs.declared.make_fault.Side.TheVariants.{Log}
use Rattle.replica.specs.declared.open_fault.OpenKind.{OpenKind}
use Rattle.replica.specs.declared.open_fault.OpenKind.TheVariants as opening

-- an error of a disk, where a store is opened
abbrev pub opening_kind : DiskError → OpenKind
opening_kind disk_errors.DiskFault = opening.DiskFault
opening_kind disk_errors.Memory = opening.Memory

-- an error of a disk, where a store is created
abbrev pub creating_kind : DiskError → CreateKind
creating_kind disk_errors.DiskFault = creating.DiskFault
creating_kind disk_errors.Memory = creating.Memory

-- an error of the log's disk, where a batch is committed
abbrev pub tail_fault : DiskError → CommitFault
tail_fault disk_errors.DiskFault = committing.DiskFault
tail_fault disk_errors.Memory = committing.Memory

-- an error of the log's disk, where an update is made
abbrev pub adding_fault : DiskError → MakeFault
adding_fault disk_errors.DiskFault = making.DiskFault Log
adding_fault disk_errors.Memory = making.Memory

-- why a batch was not added to a history
abbrev pub batch_fault : AddFault → CommitFault
batch_fault adding.Full = committing.Full
batch_fault adding.Memory = committing.Memory

-- why a body has no message
abbrev pub message_fault : EncodeError → MakeFault
message_fault (encoding.TooLong refused) = making.TooLong refused.len
message_fault encoding.Memory = making.Memory

-- a refusal of a text, where a store is created
abbrev pub refusal_kind : SchemaRefusal → CreateKind
refusal_kind (refusals.Schema fault) = creating.BadSchema fault
refusal_kind (refusals.NotConfluent declared which example) = creating.NotConfluent declared which example
refusal_kind refusals.Memory = creating.Memory

-- a refusal of a text, where a store is opened
abbrev pub declaring_kind : SchemaRefusal → OpenKind
declaring_kind (refusals.Schema fault) = opening.BadSchema
declaring_kind (refusals.NotConfluent declared which example) = opening.BadSchema
declaring_kind refusals.Memory = opening.Memory
