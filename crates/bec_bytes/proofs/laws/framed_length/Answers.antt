use Rattle.bec_bytes.proofs.Frames.{length-framed}
use Rattle.bec_bytes.proofs.laws.framed_length.Goals as goal

pub returns : goal.returns
returns c = length-framed
