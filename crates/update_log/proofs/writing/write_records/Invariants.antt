use Rattle.std.proofs.Common.{◌≤◌, take}
use Rattle.update_log.proofs.Gathering.{IsGathered}
use Rattle.update_log.proofs.writing.write_records.Given as goal

abbrev pub invariant-loop-update : goal.invariant-loop-update
invariant-loop-update g l = record {
  later : g.D.Counted.faults l.fn.disk ≤ g.D.Counted.faults l.disk;
  gathered : IsGathered (g.D.Disk.state l.fn.disk) l.fn.start (take l.update-index l.batch) l.piece (g.D.Disk.state l.disk) l.at l.filled;
}
