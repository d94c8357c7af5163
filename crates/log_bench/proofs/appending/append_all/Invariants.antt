use Rattle.std.proofs.Common.{◌≡◌, ◌≤◌, ◌-◌, false, length, take}
use Rattle.update_log.specs.Log.{IsLogOf}
use Rattle.log_bench.proofs.appending.append_all.Given as goal

abbrev pub invariant-batches : goal.invariant-batches
invariant-batches g l = record {
  log : IsLogOf (take l.end l.graph) l.log;
  sure : l.log.is_unsure ≡ false;
  within : l.end ≤ length l.graph;
}

abbrev pub decreases-batches : goal.decreases-batches
decreases-batches g l = length l.graph - l.end
