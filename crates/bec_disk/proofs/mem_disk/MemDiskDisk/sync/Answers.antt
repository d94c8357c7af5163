use Rattle.std.proofs.Common.{Ok, sym, ◌∙◌, ap, subst}
use Rattle.bec_disk.specs.Disk.{Syncs}
use Rattle.bec_disk.specs.Replay.{History, MemDiskState, state_of, shown, begun_with, replayed}
use Rattle.bec_disk.proofs.Plans.{counts_passed, counts_starved}
use Rattle.bec_disk.proofs.Records.{added, was_synced}
use Rattle.bec_disk.proofs.mem_disk.MemDiskDisk.sync.Goals as goal

pub returns-then-not-note-clause-counts : goal.returns-then-not-note-clause-counts
returns-then-not-note-clause-counts c =
    counts_starved _ _ _ _ _ (ap (λ (k : MemDiskState). k.plan) c.self.view_is) c.in_ok-count_call.ensures.fails.1 c.in_ok-count_call.ensures.counted c.starve.ensures.starved

pub returns-clause-counts : goal.returns-clause-counts
returns-clause-counts c =
    counts_passed _ _ _ _ (ap (λ (k : MemDiskState). k.plan) c.self.view_is) c.in_ok-count_call.ensures.fails.1 c.in_ok-count_call.ensures.counted

pub invariant_of-self-else-not-note : goal.invariant_of-self-else-not-note
invariant_of-self-else-not-note c =
    c.self.invariant ∙ sym (ap (λ (h : History). h.seen) (added _ _ _ _ c.if-not-note.ensures.added))

pub returns-clause-syncs : goal.returns-clause-syncs
returns-clause-syncs c =
    let after = shown c.self.inside.place (replayed (begun_with c.self.inside.start.items) c.note.new.calls.items) in
    subst (λ (k : MemDiskState). Syncs (state_of k) (Ok (tt {0})) after) c.self.view_is (was_synced c.self.inside.place _ _ (added _ _ _ _ c.if-not-note.ensures.added))
