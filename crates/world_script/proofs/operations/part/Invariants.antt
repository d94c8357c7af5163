use Rattle.std.proofs.Common.{◌+◌, ◌≤◌, length}
use Rattle.world_script.proofs.Parting.{PartsOn}
use Rattle.world_script.proofs.operations.part.Given as goal

-- the lines so far and what is left
abbrev pub invariant-loop-rest : goal.invariant-loop-rest
invariant-loop-rest l = record {
  parts : PartsOn l.text l.lines.items l.count l.quoting l.rest;
  few : l.count + length l.rest ≤ length l.text + 1;
}

abbrev pub decreases-loop-rest : goal.decreases-loop-rest
decreases-loop-rest l = length l.rest
