use Rattle.std.proofs.Common.{refl}
use Rattle.tests_of_meetings.proofs.runs.run_over.Goals as goal

pub returns : goal.returns
returns g c = record { home = c.run-status.ensures.home refl }

pub returns-in_err-to_vec : goal.returns-in_err-to_vec
returns-in_err-to_vec g c = record { home = c.run-status.ensures.home refl }
