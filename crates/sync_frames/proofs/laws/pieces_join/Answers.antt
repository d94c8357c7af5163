use Rattle.sync_frames.proofs.Splitting.{pieces_join}
use Rattle.sync_frames.proofs.laws.pieces_join.Goals as goal

pub returns : goal.returns
returns c stream piece frames more rest last s t = pieces_join stream piece frames more rest last s t
