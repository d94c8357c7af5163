use Rattle.bec_bytes.proofs.Frames.{one_front}
use Rattle.bec_bytes.proofs.laws.one_piece.Goals as goal

pub returns : goal.returns
returns c = one_front
