use Rattle.std.proofs.Common.{◌+◌, ◌≤◌, length}
use Rattle.std.specs.List.{AllByRecursion}
use Rattle.text_words.specs.Lines.{lines_of}
use Rattle.world_script.specs.declared.limits.TheConstants.{MAX_SCRIPT_BYTES}
use Rattle.world_script.specs.Lines.{HasForm, IsPlace}
use Rattle.world_script.proofs.Onward.{FailOn, ReadOn}
use Rattle.world_script.proofs.reading.read_lines.Given as goal

-- what the lines that are left say comes after what was said so far, and their faults are faults of all
abbrev pub invariant-loop-line : goal.invariant-loop-line
invariant-loop-line l = record {
  place : IsPlace l.place;
  few : l.place.number + length l.rest ≤ MAX_SCRIPT_BYTES + 1;
  form : AllByRecursion HasForm l.lines.items;
  reads : ReadOn l.schema l.place (lines_of l.rest) l.lines.items l.fn.start (lines_of l.text);
  fails : FailOn l.schema l.place (lines_of l.rest) l.fn.start (lines_of l.text);
}

abbrev pub decreases-loop-line : goal.decreases-loop-line
decreases-loop-line l = length l.rest
