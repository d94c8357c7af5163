use Rattle.key_directory.proofs.Readings.{same_key}
use Rattle.key_directory.proofs.laws.one_key.Goals as goal

pub returns : goal.returns
returns c = same_key
