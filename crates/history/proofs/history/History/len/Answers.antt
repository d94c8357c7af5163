use Rattle.std.proofs.Common.{subst}
use Rattle.history.specs.Histories.{IsHistory}
use Rattle.history.proofs.history.History.len.Goals as goal

pub returns-clause-kept : goal.returns-clause-kept
returns-clause-kept g c = subst IsHistory c.self.view_is c.self.invariant.is
