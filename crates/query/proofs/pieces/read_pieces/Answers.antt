use Rattle.std.proofs.Common.{◌≡◌, [], rules}
use Rattle.text_words.specs.Lines.{lines_of}
use Rattle.query.specs.Pieces.{placed_in, pieces_of_lines, end_from, start_spot, closed}
use Rattle.query.proofs.Placing.{lines_end, last_end}
use Rattle.query.proofs.pieces.read_pieces.Goals as goal

pub returns : goal.returns
returns c =
    let none : c.loop-line.rest.now ≡ [] = search rules in
    let all = pieces_of_lines 1 (lines_of c.args.text.now) in
    let words = lines_end c.loop-line.number c.loop-line.rest.now (placed_in c.loop-line.pieces) all none c.loop-line.invariant.words in
    let last = last_end c.loop-line.end c.loop-line.number c.loop-line.rest.now (end_from start_spot 1 (lines_of c.args.text.now)) none c.loop-line.invariant.last in
    rw c.in_ok-push.ensures.items (λ i. closed (words i) (last i))
