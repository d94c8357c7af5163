-- The refusals that faults of the layers below become.
use Rattle.update_check.specs.declared.holder.CommitFault.{CommitFault}
use Rattle.update_check.specs.declared.holder.CommitFault.TheVariants.{Full, DiskFault, Memory}
use Rattle.outcomes.specs.declared.refusal.Refusal.{Refusal}
use Rattle.outcomes.specs.declared.refusal.Refusal.TheVariants as refusals

-- updates were not committed
abbrev pub not_committed : CommitFault → Refusal
not_committed Full = refusals.Full
not_committed DiskFault = refusals.StoreFault
not_committed Memory = refusals.Memory
