use Rattle.std.proofs.Common.{◌≤◌, ◌+◌, ◌-◌, ◌∙◌, length, take, drop, List, ℕ, ap, sym, arith, length-take}
use Rattle.std.proofs.lemmas.List.{drop-drop}
use Rattle.update_log.specs.Reading.{ReaderState}
use Rattle.update_log.proofs.Pieces.{part_of_part, part_behind}
use Rattle.update_log.proofs.piece_reader.PieceReader.take.Goals as goal

pub returns-clause-bytes : goal.returns-clause-bytes
returns-clause-bytes c =
    let r = c.self.inside in
    let size = c.args.size in
    let ready : 4 + size ≤ r.to - r.from = omega (arith, c.requires, ap (λ (k : ReaderState). length k.ahead) c.self.view_is, length-take (r.to - r.from) (drop r.from r.piece.items)) in
    c.in_ok-bytes.ensures.items ∙ ap (λ (s : List ℕ). take (r.from + 4 + size - (r.from + 4)) (drop (r.from + 4) s)) c.deref.ensures.value
    ∙ ap (take (r.from + 4 + size - (r.from + 4))) (sym (drop-drop 4 r.from r.piece.items))
    ∙ part_of_part 4 size (r.to - r.from) (r.from + 4 + size - (r.from + 4)) (drop r.from r.piece.items) ready (omega arith) ∙ ap (λ (k : ReaderState). take size (drop 4 k.ahead)) c.self.view_is

abbrev with_ahead : List ℕ → ℕ → ℕ → ReaderState
with_ahead ahead at unread = record { ahead = ahead; at = at; unread = unread }

pub returns-clause-ahead : goal.returns-clause-ahead
returns-clause-ahead c =
    let r = c.self.inside in
    let size = c.args.size in
    let ready : 4 + size ≤ r.to - r.from = omega (arith, c.requires, ap (λ (k : ReaderState). length k.ahead) c.self.view_is, length-take (r.to - r.from) (drop r.from r.piece.items)) in
    ap (λ (l : List ℕ). with_ahead l r.at r.unread) (part_behind r.piece.items r.from r.to (r.from + 4 + size) (4 + size) ready (omega arith))
    ∙ ap (λ (k : ReaderState). with_ahead (drop (4 + size) k.ahead) k.at k.unread) c.self.view_is
