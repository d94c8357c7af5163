use Rattle.front.proofs.looked.looked.Goals as goal

pub returns : goal.returns
returns g c = record { outcome = c.look-outcome.result; comes = c.look-outcome.ensures; own = c.finish.result; said = c.finish.ensures; status_is = cc }
