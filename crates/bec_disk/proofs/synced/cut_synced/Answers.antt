use Rattle.bec_disk.proofs.Runs.{any_cut, then_synced}
use Rattle.bec_disk.proofs.synced.cut_synced.Goals as goal

pub returns-in_err-cut-clause-any_moment : goal.returns-in_err-cut-clause-any_moment
returns-in_err-cut-clause-any_moment g c = any_cut _ _ c.args.len _ (g.met.D.Disk.reads c.args.disk.now) c.cut.ensures.cuts

pub returns-clause-any_moment : goal.returns-clause-any_moment
returns-clause-any_moment g c =
    then_synced _ _ _ _ _ (any_cut _ _ c.args.len _ (g.met.D.Disk.reads c.args.disk.now) c.cut.ensures.cuts) (g.met.D.Disk.reads c.cut.new.self) c.sync.ensures.syncs
