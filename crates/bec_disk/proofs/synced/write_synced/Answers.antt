use Rattle.bec_disk.proofs.Runs.{any_write, then_synced}
use Rattle.bec_disk.proofs.synced.write_synced.Goals as goal

pub returns-in_err-write_at-clause-any_moment : goal.returns-in_err-write_at-clause-any_moment
returns-in_err-write_at-clause-any_moment g c = any_write _ _ c.args.at c.args.bytes.now _ (g.met.D.Disk.reads c.args.disk.now) c.write_at.ensures.writes

pub returns-clause-any_moment : goal.returns-clause-any_moment
returns-clause-any_moment g c =
    then_synced _ _ _ _ _ (any_write _ _ c.args.at c.args.bytes.now _ (g.met.D.Disk.reads c.args.disk.now) c.write_at.ensures.writes)
    (g.met.D.Disk.reads c.write_at.new.self) c.sync.ensures.syncs
