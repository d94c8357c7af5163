use Rattle.sync_frames.proofs.Splitting.{read_again}
use Rattle.sync_frames.proofs.laws.frames_are_read_again.Goals as goal

pub returns : goal.returns
returns c frame bytes stream frames rest spells s = read_again frame bytes stream frames rest spells s
