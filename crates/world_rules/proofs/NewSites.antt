-- Why a replica is not created.
use Rattle.std.proofs.Common.{ℕ, List}
use Rattle.bec_disk.specs.Disk.{DiskState}
use Rattle.replica.specs.Opening.{IsCreateCause}
use Rattle.replica.specs.declared.create_fault.CreateKind.{CreateKind}
use Rattle.replica.specs.declared.create_fault.CreateKind.TheVariants as creating
use Rattle.row_check.specs.Checksum.{is_luhn}
use Rattle.world_rules.specs.Creating.{IsSiteCause, cause_of}

pub site_cause : (schema : DiskState) (text : List ℕ) (why : CreateKind) → IsCreateCause is_luhn schema text why → IsSiteCause is_luhn text (cause_of why)
site_cause schema text creating.NotEmpty h = tt
site_cause schema text (creating.BadSchema fault) h = (fault, h.1)
site_cause schema text (creating.NotConfluent declared which example) h = (declared, which, example, h.1)
site_cause schema text creating.DiskFault h = tt
site_cause schema text creating.Memory h = tt
