-- The faults that errors of the layers below become.
use Rattle.bec_disk.specs.declared.disk_error.DiskError.{DiskError}
use Rattle.bec_disk.specs.declared.disk_error.DiskError.TheVariants as disk
use Rattle.key_index.specs.declared.faults.CreateKeyKind.{CreateKeyKind}
use Rattle.key_index.specs.declared.faults.CreateKeyKind.TheVariants as creating
use Rattle.key_directory.specs.declared.key_refusal.KeyRefusal.{KeyRefusal}
use Rattle.key_directory.specs.declared.key_refusal.KeyRefusal.TheVariants as opening
use Rattle.hss_directory.specs.declared.fault.HssFault.{HssFault}
use Rattle.hss_directory.specs.declared.fault.HssFault.TheVariants as faults

abbrev pub from_disk : DiskError → HssFault
from_disk disk.DiskFault = faults.Disk
from_disk disk.Memory = faults.Memory

abbrev pub from_creating : CreateKeyKind → HssFault
from_creating creating.DiskFault = faults.Disk
from_creating creating.KeyThere = faults.KeyThere
from_creating creating.Memory = faults.Memory

abbrev pub from_opening : KeyRefusal → HssFault
from_opening opening.NoKey = faults.NoKey
from_opening opening.BadKey = faults.BadKey
from_opening opening.DiskFault = faults.Disk
from_opening opening.Memory = faults.Memory

-- A refusal of a lower key that the part Peers vouches for.
abbrev pub lower_fault : KeyRefusal → HssFault
lower_fault opening.NoKey = faults.BadKey
lower_fault opening.BadKey = faults.BadKey
lower_fault opening.DiskFault = faults.Disk
lower_fault opening.Memory = faults.Memory

-- A refusal to make a lower key in a directory that had none.
abbrev pub making_fault : CreateKeyKind → HssFault
making_fault creating.KeyThere = faults.BadKey
making_fault creating.DiskFault = faults.Disk
making_fault creating.Memory = faults.Memory
