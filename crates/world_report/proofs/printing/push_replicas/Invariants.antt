use Rattle.std.proofs.Common.{◌+◌, ◌≤◌, length}
use Rattle.world_report.specs.Reports.{replica_text}
use Rattle.world_report.proofs.Rows.{PrintsOn}
use Rattle.world_report.proofs.printing.push_replicas.Given as goal

-- the replicas so far, and those that are left
abbrev pub invariant-loop-rest : goal.invariant-loop-rest
invariant-loop-rest l = record {
  few : l.number + length l.rest ≤ length l.replicas;
  prints : PrintsOn replica_text l.fn.out.items l.out.items l.replicas l.number l.rest;
}

abbrev pub decreases-loop-rest : goal.decreases-loop-rest
decreases-loop-rest l = length l.rest
