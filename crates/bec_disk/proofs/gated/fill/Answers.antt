use Rattle.std.proofs.Common.{arith}
use Rattle.bec_disk.proofs.Fronts.{behind-write}
use Rattle.bec_disk.proofs.Gates.{behind_gate, shut_run}
use Rattle.bec_disk.proofs.Runs.{then_synced}
use Rattle.bec_disk.proofs.gated.fill.Goals as goal

pub returns-in_err-write_at-clause-any_moment : goal.returns-in_err-write_at-clause-any_moment
returns-in_err-write_at-clause-any_moment g c =
    let first = behind-write 1 _ _ _ _ 1 _ _ (behind_gate _ c.requires.shut c.requires.settled) (omega arith) c.write_at.ensures.writes in
    shut_run _ _ c.requires.shut first.run

pub returns-in_err-write_at-2-clause-any_moment : goal.returns-in_err-write_at-2-clause-any_moment
returns-in_err-write_at-2-clause-any_moment g c =
    let first = behind-write 1 _ _ _ _ 1 _ _ (behind_gate _ c.requires.shut c.requires.settled) (omega arith) c.write_at.ensures.writes in
    let second = behind-write 1 _ _ _ _ 5 _ _ first (omega arith) c.write_at-2.ensures.writes in
    shut_run _ _ c.requires.shut second.run

pub returns-clause-any_moment : goal.returns-clause-any_moment
returns-clause-any_moment g c =
    let first = behind-write 1 _ _ _ _ 1 _ _ (behind_gate _ c.requires.shut c.requires.settled) (omega arith) c.write_at.ensures.writes in
    let second = behind-write 1 _ _ _ _ 5 _ _ first (omega arith) c.write_at-2.ensures.writes in
    then_synced _ _ _ _ _ (shut_run _ _ c.requires.shut second.run) (g.met.D.Disk.reads c.write_at-2.new.self) c.sync.ensures.syncs
