use Rattle.std.proofs.Common.{◌+◌, ◌≤◌, length}
use Rattle.world_report.specs.Reports.{doubled_text}
use Rattle.world_report.proofs.Rows.{PrintsOn}
use Rattle.world_report.proofs.printing.push_doubled.Given as goal

-- the counts so far, and those that are left
abbrev pub invariant-loop-rest : goal.invariant-loop-rest
invariant-loop-rest l = record {
  few : l.number + length l.rest ≤ length l.counts;
  prints : PrintsOn doubled_text l.fn.out.items l.out.items l.counts l.number l.rest;
}

abbrev pub decreases-loop-rest : goal.decreases-loop-rest
decreases-loop-rest l = length l.rest
