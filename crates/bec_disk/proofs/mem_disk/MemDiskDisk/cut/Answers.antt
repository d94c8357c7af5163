use Rattle.std.proofs.Common.{◌≡◌, Ok, Err, refl, sym, ◌∙◌, ap, subst, take}
use Rattle.bec_disk.specs.Disk.{Cuts, cut_at}
use Rattle.bec_disk.specs.Plan.{PlanState}
use Rattle.bec_disk.specs.Replay.{History, IsRecorded, MemDiskState, state_of, shown, begun_with, replayed}
use Rattle.bec_disk.proofs.Plans.{counts_noted, counts_passed, counts_starved}
use Rattle.bec_disk.proofs.Records.{added, failed_recorded, noted, unseen, was_cut, cut_failed}
use Rattle.bec_disk.specs.declared.disk_call.DiskCall.TheVariants.{CutFailed}
use Rattle.bec_disk.proofs.mem_disk.MemDiskDisk.cut.Goals as goal

pub invariant_of-self : goal.invariant_of-self
invariant_of-self c =
    c.self.invariant ∙ sym (unseen _ _ (CutFailed c.args.len) refl (noted _ _ _ _ _ _ c.note_failed.ensures.noted))

pub returns-in-Err-clause-counts : goal.returns-in-Err-clause-counts
returns-in-Err-clause-counts c =
    counts_noted _ _ _ _ _ _ _ _ (ap (λ (k : MemDiskState). k.plan) c.self.view_is) c.in-Err.ensures.fails.0 c.in-Err.ensures.counted c.note_failed.ensures.noted

pub returns-in-Err-clause-unseen : goal.returns-in-Err-clause-unseen
returns-in-Err-clause-unseen c =
    let after = shown c.self.inside.place (replayed (begun_with c.self.inside.start.items) c.note_failed.new.calls.items) in
    subst (λ (k : MemDiskState). after.seen ≡ (state_of k).seen) c.self.view_is (unseen _ _ (CutFailed c.args.len) refl (noted _ _ _ _ _ _ c.note_failed.ensures.noted))

pub returns-in-Err-clause-cuts : goal.returns-in-Err-clause-cuts
returns-in-Err-clause-cuts c =
    let after = shown c.self.inside.place (replayed (begun_with c.self.inside.start.items) c.note_failed.new.calls.items) in
    subst (λ (k : MemDiskState). Cuts (state_of k) c.args.len (Err c.in-Err.fault) after) c.self.view_is (cut_failed c.self.inside.place _ _ c.args.len c.in-Err.fault (noted _ _ _ _ _ _ c.note_failed.ensures.noted))

pub returns-then-not-note-clause-counts : goal.returns-then-not-note-clause-counts
returns-then-not-note-clause-counts c =
    counts_starved _ _ _ _ _ (ap (λ (k : MemDiskState). k.plan) c.self.view_is) c.in_default.ensures.fails.1 c.in_default.ensures.counted c.starve.ensures.starved

pub invariant_of-self-2 : goal.invariant_of-self-2
invariant_of-self-2 c =
    c.truncate.ensures.items ∙ ap (take c.args.len) c.self.invariant ∙ sym (ap (λ (h : History). h.seen) (added _ _ _ _ c.if-not-note.ensures.added))

pub returns-clause-counts : goal.returns-clause-counts
returns-clause-counts c =
    counts_passed _ _ _ _ (ap (λ (k : MemDiskState). k.plan) c.self.view_is) c.in_default.ensures.fails.1 c.in_default.ensures.counted

pub returns-clause-cuts : goal.returns-clause-cuts
returns-clause-cuts c =
    let after = shown c.self.inside.place (replayed (begun_with c.self.inside.start.items) c.note.new.calls.items) in
    subst (λ (k : MemDiskState). Cuts (state_of k) c.args.len (Ok (tt {0})) after) c.self.view_is (was_cut c.self.inside.place _ _ c.args.len (added _ _ _ _ c.if-not-note.ensures.added))

pub returns-in-Err-clause-recorded : goal.returns-in-Err-clause-recorded
returns-in-Err-clause-recorded c =
    let was : MemDiskState = record { slot = c.self.inside.place; start = c.self.inside.start.items; calls = c.self.inside.calls.items; plan = c.self.inside.plan } in
    let after : MemDiskState = record was { calls = c.note_failed.new.calls.items; plan = c.note_failed.new.plan } in
    subst (λ (k : MemDiskState). IsRecorded k (cut_at c.args.len (state_of k).now) after) c.self.view_is
    (failed_recorded was _ _ _ (CutFailed c.args.len) _ refl (ap (λ (p : PlanState). p.unrecorded) c.in-Err.ensures.counted) c.in-Err.ensures.fails.0 c.note_failed.ensures.noted)
