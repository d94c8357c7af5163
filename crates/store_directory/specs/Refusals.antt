-- The refusals that errors of the layers below become.
use Rattle.bec_disk.specs.declared.disk_error.DiskError.{DiskError}
use Rattle.bec_disk.specs.declared.disk_error.DiskError.TheVariants as disk
use Rattle.replica.specs.declared.open_fault.OpenKind.{OpenKind}
use Rattle.replica.specs.declared.open_fault.OpenKind.TheVariants as opening
use Rattle.store_directory.specs.declared.store_refusal.StoreRefusal.{StoreRefusal}
use Rattle.store_directory.specs.declared.store_refusal.StoreRefusal.TheVariants as refusals

abbrev pub from_disk : DiskError → StoreRefusal
from_disk disk.DiskFault = refusals.DiskFault
from_disk disk.Memory = refusals.Memory

abbrev pub from_opening : OpenKind → StoreRefusal
from_opening opening.DiskFault = refusals.DiskFault
from_opening opening.NoStore = refusals.NoStore
from_opening opening.BadSchema = refusals.BadStore
from_opening opening.Memory = refusals.Memory
