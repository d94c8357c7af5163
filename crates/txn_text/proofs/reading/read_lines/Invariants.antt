use Rattle.std.proofs.Common.{◌+◌, ◌≤◌, length}
use Rattle.text_words.specs.Lines.{lines_of}
use Rattle.txn_text.specs.Outcome.{MayStand}
use Rattle.txn_text.proofs.Lines.{ReadOn, FailOn}
use Rattle.txn_text.proofs.reading.read_lines.Given as goal

-- what the lines that are left are after the operations so far, or where they have a fault, all lines are and have
abbrev pub invariant-loop-line : goal.invariant-loop-line
invariant-loop-line l = record {
  from_one : 1 ≤ l.number;
  few : l.number + length l.rest ≤ 4194305;
  form : MayStand l.ops.items;
  reads : ReadOn l.schema.tables (lines_of l.rest) l.ops.items (lines_of l.text);
  fails : FailOn l.schema.tables (length l.ops.items) l.number (lines_of l.rest) (lines_of l.text);
}

abbrev pub decreases-loop-line : goal.decreases-loop-line
decreases-loop-line l = length l.rest
