use Rattle.std.proofs.Common.{ap}
use Rattle.bec_disk.specs.Replay.{MemDiskState}
use Rattle.bec_disk.proofs.Plans.{counts_passed}
use Rattle.bec_disk.proofs.mem_disk.MemDiskDisk.read.Goals as goal

pub returns-clause-counts : goal.returns-clause-counts
returns-clause-counts c =
    counts_passed _ _ _ _ (ap (λ (k : MemDiskState). k.plan) c.self.view_is) c.in_ok-count_call.ensures.fails.1 c.in_ok-count_call.ensures.counted
