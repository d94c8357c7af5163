-- What an error of a disk is as an error of a key.
use Rattle.bec_disk.specs.declared.disk_error.DiskError.{DiskError}
use Rattle.bec_disk.specs.declared.disk_error.DiskError.TheVariants.{DiskFault, Memory}
use Rattle.key_index.specs.declared.faults.KeyFaultKind.{KeyFaultKind}
use Rattle.key_index.specs.declared.faults.KeyFaultKind.TheVariants as opening
use Rattle.key_index.specs.declared.faults.CreateKeyKind.{CreateKeyKind}
use Rattle.key_index.specs.declared.faults.CreateKeyKind.TheVariants as creating

abbrev pub opening_kind : DiskError → KeyFaultKind
opening_kind DiskFault = opening.DiskFault
opening_kind Memory = opening.Memory

abbrev pub creating_kind : DiskError → CreateKeyKind
creating_kind DiskFault = creating.DiskFault
creating_kind Memory = creating.Memory
