use Rattle.std.proofs.Common.{sym, ◌∙◌, ap}
use Rattle.bec_disk.specs.Replay.{History}
use Rattle.bec_disk.proofs.Records.{added}
use Rattle.bec_disk.proofs.mem_disk.MemDisk.settle_as.Goals as goal

pub invariant_of-self-2 : goal.invariant_of-self-2
invariant_of-self-2 c = c.self.invariant ∙ sym (ap (λ (h : History). h.seen) (added _ _ _ _ c.if-not-note.ensures.added))
