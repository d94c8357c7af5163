use Rattle.std.proofs.Common.{◌≡◌, List, ℕ, Ok, Err, refl, sym, ◌∙◌, ap, subst, length, ◌≤◌}
use Rattle.bec_disk.specs.Disk.{Writes, overwritten, written_at}
use Rattle.bec_disk.specs.Plan.{PlanState}
use Rattle.bec_disk.specs.Replay.{History, IsRecorded, MemDiskState, state_of, shown, begun_with, replayed}
use Rattle.bec_disk.proofs.Plans.{counts_noted, counts_passed, counts_starved}
use Rattle.bec_disk.proofs.Records.{added, after_write, failed_recorded, noted, unseen, wrote, write_failed}
use Rattle.bec_disk.specs.declared.disk_call.DiskCall.TheVariants.{WriteFailed}
use Rattle.bec_disk.proofs.mem_disk.MemDiskDisk.write_at.Goals as goal

pub invariant_of-self : goal.invariant_of-self
invariant_of-self c =
    c.self.invariant ∙ sym (unseen _ _ (WriteFailed c.args.at (length c.args.bytes.now)) refl (noted _ _ _ _ _ _ c.note_failed.ensures.noted))

pub returns-in-Err-clause-counts : goal.returns-in-Err-clause-counts
returns-in-Err-clause-counts c =
    counts_noted _ _ _ _ _ _ _ _ (ap (λ (k : MemDiskState). k.plan) c.self.view_is) c.in-Err.ensures.fails.0 c.in-Err.ensures.counted c.note_failed.ensures.noted

pub returns-in-Err-clause-unseen : goal.returns-in-Err-clause-unseen
returns-in-Err-clause-unseen c =
    let after = shown c.self.inside.place (replayed (begun_with c.self.inside.start.items) c.note_failed.new.calls.items) in
    subst (λ (k : MemDiskState). after.seen ≡ (state_of k).seen) c.self.view_is (unseen _ _ (WriteFailed c.args.at (length c.args.bytes.now)) refl (noted _ _ _ _ _ _ c.note_failed.ensures.noted))

pub returns-in-Err-clause-writes : goal.returns-in-Err-clause-writes
returns-in-Err-clause-writes c =
    let after = shown c.self.inside.place (replayed (begun_with c.self.inside.start.items) c.note_failed.new.calls.items) in
    subst (λ (k : MemDiskState). Writes (state_of k) c.args.at c.args.bytes.now (Err c.in-Err.fault) after) c.self.view_is (write_failed c.self.inside.place _ _ c.args.at c.args.bytes.now c.in-Err.fault (noted _ _ _ _ _ _ c.note_failed.ensures.noted))

pub write-requires : goal.write-requires
write-requires c =
    subst (λ (l : List ℕ). c.args.at ≤ length l) (sym c.self.invariant) (subst (λ (k : MemDiskState). c.args.at ≤ length (state_of k).seen) (sym c.self.view_is) (c.requires refl))

pub returns-in_default-write-clause-counts : goal.returns-in_default-write-clause-counts
returns-in_default-write-clause-counts c =
    counts_starved _ _ _ _ _ (ap (λ (k : MemDiskState). k.plan) c.self.view_is) c.in_default.ensures.fails.1 c.in_default.ensures.counted c.starve.ensures.starved

pub returns-clause-counts : goal.returns-clause-counts
returns-clause-counts c =
    counts_passed _ _ _ _ (ap (λ (k : MemDiskState). k.plan) c.self.view_is) c.in_default.ensures.fails.1 c.in_default.ensures.counted

pub invariant_of-self-in-Ok : goal.invariant_of-self-in-Ok
invariant_of-self-in-Ok c =
    c.in-Ok.ensures.image ∙ ap (λ (l : List ℕ). overwritten l c.args.at c.args.bytes.now) c.self.invariant ∙ sym (ap (λ (h : History). h.seen) (added _ _ _ _ c.in-Ok.ensures.calls ∙ after_write _ c.args.at c.args.bytes.now (subst (λ (k : MemDiskState). c.args.at ≤ length (state_of k).seen) (sym c.self.view_is) (c.requires refl))))

pub returns-clause-writes : goal.returns-clause-writes
returns-clause-writes c =
    let after = shown c.self.inside.place (replayed (begun_with c.self.inside.start.items) c.write.new.calls.items) in
    subst (λ (k : MemDiskState). Writes (state_of k) c.args.at c.args.bytes.now (Ok (tt {0})) after) c.self.view_is
    (wrote c.self.inside.place _ _ c.args.at c.args.bytes.now (subst (λ (k : MemDiskState). c.args.at ≤ length (state_of k).seen) (sym c.self.view_is) (c.requires refl)) (added _ _ _ _ c.in-Ok.ensures.calls))

pub returns-in-Err-clause-recorded : goal.returns-in-Err-clause-recorded
returns-in-Err-clause-recorded c =
    let was : MemDiskState = record { slot = c.self.inside.place; start = c.self.inside.start.items; calls = c.self.inside.calls.items; plan = c.self.inside.plan } in
    let after : MemDiskState = record was { calls = c.note_failed.new.calls.items; plan = c.note_failed.new.plan } in
    subst (λ (k : MemDiskState). IsRecorded k (written_at c.args.at (length c.args.bytes.now) (state_of k).now) after) c.self.view_is
    (failed_recorded was _ _ _ (WriteFailed c.args.at (length c.args.bytes.now)) _ refl (ap (λ (p : PlanState). p.unrecorded) c.in-Err.ensures.counted) c.in-Err.ensures.fails.0 c.note_failed.ensures.noted)
