use Rattle.ancestry.proofs.Growth.{places_held}
use Rattle.ancestry.proofs.laws.places_are_held.Goals as goal

pub returns : goal.returns
returns c = places_held
