use Rattle.session_rules.specs.Pair.{swapped}
use Rattle.sync_session.proofs.Stopping.{alone_a, over_for_b, stays}
use Rattle.sync_session.proofs.laws.a_stopped_run_is_over.Goals as goal

pub returns-clause-stopped : goal.returns-clause-stopped
returns-clause-stopped c limits_a limits_b rule_a rule_b p q run stopped = stays limits_a limits_b rule_a rule_b p q run stopped

pub returns-clause-ended_a : goal.returns-clause-ended_a
returns-clause-ended_a c limits_a limits_b rule_a rule_b p q ending run ended = alone_a limits_a limits_b rule_a rule_b p q ending run ended

pub returns-clause-ended_b : goal.returns-clause-ended_b
returns-clause-ended_b c limits_a limits_b rule_a rule_b p q ending run ended =
    alone_a limits_b limits_a rule_b rule_a (swapped p) (swapped q) ending (over_for_b limits_a limits_b rule_a rule_b p q run) ended
