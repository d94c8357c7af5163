use Rattle.sync_session.proofs.Quiet.{silent_not_store}
use Rattle.sync_session.proofs.carrying.hand_turn.Goals as goal

pub returns-in-None-clause-store : goal.returns-in-None-clause-store
returns-in-None-clause-store g c = λ is. absurd (silent_not_store c.silent.result c.silent.ensures is)
