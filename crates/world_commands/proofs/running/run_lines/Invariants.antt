use Rattle.std.proofs.Common.{◌≡◌, false, length}
use Rattle.std.specs.List.{AllByRecursion}
use Rattle.row_check.specs.Checksum.{is_luhn}
use Rattle.world_commands.proofs.Doing.{Going}
use Rattle.world_commands.proofs.running.run_lines.Given as goal
use Rattle.world_script.specs.Lines.{HasForm}

-- the lines that have happened so far
abbrev pub invariant-loop-line : goal.invariant-loop-line
invariant-loop-line l = record {
  form : AllByRecursion HasForm l.rest;
  runs : l.world.is_over ≡ false;
  going : Going is_luhn l.lines l.rest l.fn.world l.world l.fn.report.items l.report.items;
}

abbrev pub decreases-loop-line : goal.decreases-loop-line
decreases-loop-line l = length l.rest
