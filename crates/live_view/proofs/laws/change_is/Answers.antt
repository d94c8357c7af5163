use Rattle.live_view.proofs.Differing.{makes, one_change}
use Rattle.live_view.proofs.laws.change_is.Goals as goal

pub returns-clause-makes : goal.returns-clause-makes
returns-clause-makes c = makes

pub returns-clause-one : goal.returns-clause-one
returns-clause-one c = one_change
