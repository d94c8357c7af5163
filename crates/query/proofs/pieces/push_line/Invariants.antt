use Rattle.std.proofs.Common.{◌≡◌, length}
use Rattle.query.specs.Pieces.{placed_in, joined, pieces_of_line}
use Rattle.query.proofs.Placing.{pieces_on}
use Rattle.query.proofs.pieces.push_line.Given as goal

-- the words so far, and those still to come, are all words of the line
abbrev pub invariant-loop-rest : goal.invariant-loop-rest
invariant-loop-rest l =
    joined (placed_in l.pieces) (pieces_on l.number (length l.line) l.rest) ≡ joined (placed_in l.initial.pieces) (pieces_of_line l.number l.line)

abbrev pub decreases-loop-rest : goal.decreases-loop-rest
decreases-loop-rest l = length l.rest
