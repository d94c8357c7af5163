use Rattle.std.proofs.Common.{refl, ap, Ok, Err}
use Rattle.bec_node.proofs.seals.sealed.Goals as goal

pub returns-in-Ok : goal.returns-in-Ok
returns-in-Ok g c = record { own = Ok c.in-Ok.text; told = refl; comes = c.in-Ok.ensures.comes; home = c.in-Ok.ensures.home; failed = c.in-Ok.ensures.failed }

pub returns-in-Err : goal.returns-in-Err
returns-in-Err g c = record { own = Err c.in-Err.why; told = ap Err c.seal_refusal.ensures; comes = c.in-Err.ensures.comes; home = c.in-Err.ensures.home; failed = c.in-Err.ensures.failed }
