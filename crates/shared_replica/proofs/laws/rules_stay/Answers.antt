use Rattle.shared_replica.proofs.Going.{ruled_first, ruled_longer, ruled_once}
use Rattle.shared_replica.proofs.laws.rules_stay.Goals as goal

pub returns-clause-first : goal.returns-clause-first
returns-clause-first c = ruled_first

pub returns-clause-stays : goal.returns-clause-stays
returns-clause-stays c = ruled_longer

pub returns-clause-one : goal.returns-clause-one
returns-clause-one c = ruled_once
