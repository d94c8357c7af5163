-- The refusals that errors of the layers below become.
use Rattle.std.specs.Prelude.{ℕ}
use Rattle.live_view.specs.declared.live_view.WatchError.{WatchError}
use Rattle.live_view.specs.declared.live_view.WatchError.TheVariants as watch_errors
use Rattle.update_check.specs.declared.check_error.CheckError.{CheckError}
use Rattle.update_check.specs.declared.check_error.CheckError.TheVariants as check_errors
use Rattle.update_check.specs.declared.holder.CommitFault.{CommitFault}
use Rattle.update_check.specs.declared.holder.CommitFault.TheVariants as commit_faults
use Rattle.update_stream.specs.declared.record_fault.RecordFault.TheVariants as faults
use Rattle.outcomes.specs.declared.refusal.Refusal.{Refusal}
use Rattle.outcomes.specs.declared.refusal.Refusal.TheVariants as refusals

-- of a record with this number: it does not pass the checks
abbrev pub not_checked : ℕ → CheckError → Refusal
not_checked number (check_errors.Fault fault) = refusals.Record number (faults.Check fault)
not_checked number check_errors.Memory = refusals.Memory

-- the store does not add it
abbrev pub not_added : ℕ → CommitFault → Refusal
not_added number commit_faults.Full = refusals.Record number faults.Full
not_added number commit_faults.DiskFault = refusals.StoreFault
not_added number commit_faults.Memory = refusals.Memory

-- of a query: it is not watched
abbrev pub not_watched : WatchError → Refusal
not_watched watch_errors.NotNamed = refusals.QueryNotNamed
not_watched watch_errors.Memory = refusals.Memory
