use Rattle.sync_session.proofs.Rerunning.{one_run}
use Rattle.sync_session.proofs.laws.one_run_of_a_pair.Goals as goal

pub returns : goal.returns
returns c = one_run c.no_cause.ensures c.one_cause.ensures c.one_summary.ensures
