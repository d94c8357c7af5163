use Rattle.session_rules.proofs.Runs.{holds_always}
use Rattle.session_rules.proofs.Facts.{no_faults, in_bound, live, done_a, done_b}
use Rattle.session_rules.proofs.laws.correct_ends.Goals as goal

pub returns-clause-fault : goal.returns-clause-fault
returns-clause-fault c limits_a limits_b p q opens run = no_faults q (holds_always limits_a limits_b p q opens run)

pub returns-clause-bound : goal.returns-clause-bound
returns-clause-bound c limits_a limits_b p q opens run = in_bound q (holds_always limits_a limits_b p q opens run)

pub returns-clause-live : goal.returns-clause-live
returns-clause-live c limits_a limits_b p q opens run = live q (holds_always limits_a limits_b p q opens run)

pub returns-clause-done_a : goal.returns-clause-done_a
returns-clause-done_a c limits_a limits_b p q opens run alike done = done_a q (holds_always limits_a limits_b p q opens run) alike done

pub returns-clause-done_b : goal.returns-clause-done_b
returns-clause-done_b c limits_a limits_b p q opens run alike done = done_b q (holds_always limits_a limits_b p q opens run) alike done
