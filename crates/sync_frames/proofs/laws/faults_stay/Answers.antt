use Rattle.sync_frames.proofs.Splitting.{faults_stay}
use Rattle.sync_frames.proofs.laws.faults_stay.Goals as goal

pub returns : goal.returns
returns c bytes more broken = faults_stay bytes more broken
