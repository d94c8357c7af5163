use Rattle.update_codec.proofs.Again.{one_end}
use Rattle.update_codec.proofs.laws.no_prefix.Goals as goal

pub returns : goal.returns
returns c = one_end
