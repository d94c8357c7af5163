use Rattle.std.proofs.Common.{inr, refl, ◌∙◌}
use Rattle.bec_disk.specs.Gated.{IsShutOrSame}
use Rattle.bec_disk.proofs.Gates.{closing}
use Rattle.bec_disk.proofs.Images.{settled_image}
use Rattle.bec_disk.proofs.Moments.{stays}
use Rattle.bec_disk.proofs.gated.close_gate.Goals as goal

pub returns-in_err-len-clause-any_moment : goal.returns-in_err-len-clause-any_moment
returns-in_err-len-clause-any_moment g c settled =
    let old = g.D.Disk.state c.args.disk.now in
    stays old _ (IsShutOrSame old.seen) c.len.ensures.same (λ tells. settled_image old (IsShutOrSame old.seen) (settled tells) (inr refl))

pub returns-in_err-read-clause-any_moment : goal.returns-in_err-read-clause-any_moment
returns-in_err-read-clause-any_moment g c settled =
    let old = g.D.Disk.state c.args.disk.now in
    stays old _ (IsShutOrSame old.seen) (c.read.ensures.same ∙ c.len.ensures.same) (λ tells. settled_image old (IsShutOrSame old.seen) (settled tells) (inr refl))

pub returns-clause-any_moment : goal.returns-clause-any_moment
returns-clause-any_moment g c settled =
    closing _ _ _ _ c.read.new.buf c.len.ensures.same c.read.ensures.same settled c.in_ok-read.ensures.bytes c.if-gate-eq0.false c.write_synced.ensures.any_moment
