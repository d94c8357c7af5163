use Rattle.update_codec.proofs.Places.{kept_of}
use Rattle.update_codec.proofs.laws.spells_its_parts.Goals as goal

pub returns : goal.returns
returns c = λ bytes is. (kept_of bytes is.0 is.1).spells
