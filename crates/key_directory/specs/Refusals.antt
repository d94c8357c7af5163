-- The refusals that errors of the layers below become.
use Rattle.bec_disk.specs.declared.disk_error.DiskError.{DiskError}
use Rattle.bec_disk.specs.declared.disk_error.DiskError.TheVariants as disk
use Rattle.key_index.specs.declared.faults.KeyFaultKind.{KeyFaultKind}
use Rattle.key_index.specs.declared.faults.KeyFaultKind.TheVariants as opening_key
use Rattle.key_directory.specs.declared.key_refusal.KeyRefusal.{KeyRefusal}
use Rattle.key_directory.specs.declared.key_refusal.KeyRefusal.TheVariants as key_refusals

abbrev pub key_from_disk : DiskError → KeyRefusal
key_from_disk disk.DiskFault = key_refusals.DiskFault
key_from_disk disk.Memory = key_refusals.Memory

abbrev pub key_from_opening : KeyFaultKind → KeyRefusal
key_from_opening opening_key.DiskFault = key_refusals.DiskFault
key_from_opening opening_key.BadKeyFile = key_refusals.BadKey
key_from_opening opening_key.NoKey = key_refusals.NoKey
key_from_opening opening_key.Memory = key_refusals.Memory
