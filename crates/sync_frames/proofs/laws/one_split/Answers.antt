use Rattle.sync_frames.proofs.Splitting.{one_split}
use Rattle.sync_frames.proofs.laws.one_split.Goals as goal

pub returns : goal.returns
returns c stream frames others rest other s t = one_split stream frames others rest other s t
