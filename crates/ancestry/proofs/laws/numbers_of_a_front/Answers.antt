use Rattle.ancestry.proofs.Growth.{numbered_front}
use Rattle.ancestry.proofs.laws.numbers_of_a_front.Goals as goal

pub returns : goal.returns
returns c = numbered_front
