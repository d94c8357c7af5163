use Rattle.std.proofs.Common.{◌≤◌, ◌+◌, ◌-◌, ◌∙◌, length, take, drop, ℕ, List, ap, arith, length-take}
use Rattle.update_log.specs.Reading.{ReaderState}
use Rattle.update_log.proofs.Pieces.{part_of_part}
use Rattle.update_log.proofs.piece_reader.PieceReader.next_size.Goals as goal

pub returns-clause-value : goal.returns-clause-value
returns-clause-value c =
    let r = c.self.inside in
    let ready : 4 ≤ r.to - r.from = omega (arith, c.requires, ap (λ (k : ReaderState). length k.ahead) c.self.view_is, length-take (r.to - r.from) (drop r.from r.piece.items)) in
    c.length_of.ensures ∙ c.copy_from_slice.ensures.after ∙ ap (λ (s : List ℕ). take (r.from + 4 - r.from) (drop r.from s)) c.deref.ensures.value
    ∙ part_of_part 0 4 (r.to - r.from) (r.from + 4 - r.from) (drop r.from r.piece.items) ready (omega arith) ∙ ap (λ (k : ReaderState). take 4 k.ahead) c.self.view_is
