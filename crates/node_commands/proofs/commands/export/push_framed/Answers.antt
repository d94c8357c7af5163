use Rattle.std.proofs.Common.{◌∙◌, ◌++◌, ℕ, List, ap, append_assoc}
use Rattle.bec_bytes.specs.Framed.{framed}
use Rattle.node_commands.proofs.commands.export.push_framed.Goals as goal

pub returns : goal.returns
unfolding framed
returns c =
    let old = c.args.bytes.now.items in
    let piece = c.args.piece.now in
    c.in_ok-extend_from_slice-2.ensures.items ∙ ap (λ (w : List ℕ). w ++ piece) c.in_ok-extend_from_slice.ensures.items ∙ append_assoc old c.to_be_bytes.result piece
    ∙ ap (λ (t : List ℕ). old ++ (t ++ piece)) c.to_be_bytes.ensures
