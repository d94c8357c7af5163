use Rattle.std.proofs.Common.{◌≡◌, ◌+◌, ◌≤◌, length}
use Rattle.text_words.specs.Lines.{lines_of}
use Rattle.query.specs.Pieces.{placed_in, joined, pieces_of_lines, end_from, start_spot}
use Rattle.query.proofs.pieces.read_pieces.Given as goal

-- the words of the lines so far, and those of the lines that are left, are all words
abbrev pub invariant-loop-line : goal.invariant-loop-line
invariant-loop-line l = record {
  from_one : 1 ≤ l.number;
  few : l.number + length l.rest ≤ 4194305;
  words : joined (placed_in l.pieces) (pieces_of_lines l.number (lines_of l.rest)) ≡ pieces_of_lines 1 (lines_of l.text);
  last : end_from l.end l.number (lines_of l.rest) ≡ end_from start_spot 1 (lines_of l.text);
}

abbrev pub decreases-loop-line : goal.decreases-loop-line
decreases-loop-line l = length l.rest
