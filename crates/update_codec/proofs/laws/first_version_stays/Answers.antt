use Rattle.update_codec.proofs.FirstVersions.{first_of_spelled, spelled_of_first}
use Rattle.update_codec.proofs.laws.first_version_stays.Goals as goal

pub returns : goal.returns
returns c = λ bytes update. (first_of_spelled bytes update, spelled_of_first bytes update)
