use Rattle.std.proofs.Common.{◌∙◌, length, sym, ap, subst, arith, length-append, IsTrue, Ok}
use Rattle.std.proofs.Math.Nat.{le_trans}
use Rattle.bec_bytes.specs.Causes.{HasCause}
use Rattle.bec_bytes.specs.Framed.{stream_of}
use Rattle.bec_disk.specs.Disk.{LeavesOnly}
use Rattle.bec_disk.proofs.Moments.{told, told_before, then_same}
use Rattle.bec_disk.proofs.Runs.{then_synced, synced_settled}
use Rattle.update_log.specs.Log.{LogState, IsLogOf, acknowledged}
use Rattle.update_log.specs.Logset.{BeginsWith}
use Rattle.update_log.proofs.Gathering.{batch_fits, batch_short}
use Rattle.update_log.proofs.Keeping.{clean_kept, still_kept, still_log_of, leaves_acknowledged, added_log_of, vec_length, on_err}
use Rattle.update_log.proofs.log.Log.append.Goals as goal

pub write_records-requires-clause-short : goal.write_records-requires-clause-short
write_records-requires-clause-short g c = let next = c.requires.next in batch_short next.0 next.1.0 c.args.batch.now next.1.2

pub write_records-requires-clause-fits : goal.write_records-requires-clause-fits
write_records-requires-clause-fits g c =
    let next = c.requires.next in
    batch_fits next.0 next.1.0 c.args.batch.now c.self.inside.end next.1.2 (ap (λ (k : LogState). k.end) c.self.view_is ∙ next.1.1.end)

pub write_records-requires-clause-clean : goal.write_records-requires-clause-clean
write_records-requires-clause-clean g c tells = (c.self.invariant.0 tells).sure (ap (λ (k : LogState). k.is_unsure) c.self.view_is ∙ c.requires.sure)

pub invariant_of-self : goal.invariant_of-self
invariant_of-self g c = let log = c.self.inside in
    let sure = ap (λ (k : LogState). k.is_unsure) c.self.view_is ∙ c.requires.sure in
    let run = leaves_acknowledged log.end _ _ (λ tells. (c.self.invariant.0 tells).sure sure) c.write_records.ensures.any_moment in (
      still_kept log.end log.is_unsure _ _ c.self.invariant.0 run (g.met.D.Disk.reads c.write_records.new.disk),
      vec_length c.write_records.new.piece log.piece.items log.piece.len _ (omega (arith, c.write_records.auto.piece, c.deref_mut.ensures.len)) (omega (arith, c.write_records.auto.piece, c.deref_mut.ensures.len, c.self.invariant.1)),
    )

pub returns-in_err-end-clause-kept : goal.returns-in_err-end-clause-kept
returns-in_err-end-clause-kept g c members is = let log = c.self.inside in
    let sure = ap (λ (k : LogState). k.is_unsure) c.self.view_is ∙ c.requires.sure in
    let run = leaves_acknowledged log.end _ _ (λ tells. (c.self.invariant.0 tells).sure sure) c.write_records.ensures.any_moment in
    on_err c.from_residual.result _
    (still_log_of members log.is_unsure _ _ Rattle.std.proofs.Common.refl c.self.invariant.0 run (g.met.D.Disk.reads c.write_records.new.disk) (subst (λ (k : LogState). IsLogOf members k) (sym c.self.view_is) is))

pub returns-in_err-end-clause-any_moment : goal.returns-in_err-end-clause-any_moment
returns-in_err-end-clause-any_moment g c = let log = c.self.inside in
    let sure = ap (λ (k : LogState). k.is_unsure) c.self.view_is ∙ c.requires.sure in
    let run = leaves_acknowledged log.end _ _ (λ tells. (c.self.invariant.0 tells).sure sure) c.write_records.ensures.any_moment in
    subst (λ (k : LogState). LeavesOnly k.disk (g.D.Disk.state c.write_records.new.disk) (BeginsWith (acknowledged k))) c.self.view_is run

pub returns-in_err-end-clause-cause : goal.returns-in_err-end-clause-cause
returns-in_err-end-clause-cause g c =
    let faults = g.D.Counted.faults in
    let cause = c.in_err-end.ensures.cause in
    subst (λ (k : LogState). HasCause k.faults (faults c.write_records.new.disk) c.from_residual.result) c.self.view_is
    (record { later = cause.later; failed = on_err c.from_residual.result _ cause.failed })

pub invariant_of-self-in_err-sync : goal.invariant_of-self-in_err-sync
invariant_of-self-in_err-sync g c = let log = c.self.inside in
    let sure = ap (λ (k : LogState). k.is_unsure) c.self.view_is ∙ c.requires.sure in
    let first = leaves_acknowledged log.end _ _ (λ tells. (c.self.invariant.0 tells).sure sure) c.write_records.ensures.any_moment in
    let run = then_synced _ _ _ _ _ first (g.met.D.Disk.reads c.write_records.new.disk) c.sync.ensures.syncs in (
      still_kept log.end log.is_unsure _ _ c.self.invariant.0 run (g.met.D.Disk.reads c.sync.new.self),
      vec_length c.write_records.new.piece log.piece.items log.piece.len _ (omega (arith, c.write_records.auto.piece, c.deref_mut.ensures.len)) (omega (arith, c.write_records.auto.piece, c.deref_mut.ensures.len, c.self.invariant.1)),
    )

pub returns-in_err-sync-clause-kept : goal.returns-in_err-sync-clause-kept
returns-in_err-sync-clause-kept g c members is = let log = c.self.inside in
    let sure = ap (λ (k : LogState). k.is_unsure) c.self.view_is ∙ c.requires.sure in
    let first = leaves_acknowledged log.end _ _ (λ tells. (c.self.invariant.0 tells).sure sure) c.write_records.ensures.any_moment in
    let run = then_synced _ _ _ _ _ first (g.met.D.Disk.reads c.write_records.new.disk) c.sync.ensures.syncs in
    on_err c.from_residual-in_err-sync.result _
    (still_log_of members log.is_unsure _ _ Rattle.std.proofs.Common.refl c.self.invariant.0 run (g.met.D.Disk.reads c.sync.new.self) (subst (λ (k : LogState). IsLogOf members k) (sym c.self.view_is) is))

pub returns-in_err-sync-clause-cause : goal.returns-in_err-sync-clause-cause
returns-in_err-sync-clause-cause g c =
    let faults = g.D.Counted.faults in
    let cause = c.in_err-sync.ensures.cause in
    subst (λ (k : LogState). HasCause k.faults (faults c.sync.new.self) c.from_residual-in_err-sync.result) c.self.view_is
    (record {
      later = le_trans c.in_ok-end.ensures.cause.later cause.later;
      failed = on_err c.from_residual-in_err-sync.result _ (omega (arith, c.in_ok-end.ensures.cause.later, cause.failed));
    })

pub returns-in_err-sync-clause-any_moment : goal.returns-in_err-sync-clause-any_moment
returns-in_err-sync-clause-any_moment g c = let log = c.self.inside in
    let sure = ap (λ (k : LogState). k.is_unsure) c.self.view_is ∙ c.requires.sure in
    let first = leaves_acknowledged log.end _ _ (λ tells. (c.self.invariant.0 tells).sure sure) c.write_records.ensures.any_moment in
    let run = then_synced _ _ _ _ _ first (g.met.D.Disk.reads c.write_records.new.disk) c.sync.ensures.syncs in
    subst (λ (k : LogState). LeavesOnly k.disk (g.D.Disk.state c.sync.new.self) (BeginsWith (acknowledged k))) c.self.view_is run

pub invariant_of-self-2 : goal.invariant_of-self-2
invariant_of-self-2 g c = let log = c.self.inside in
    let sure = ap (λ (k : LogState). k.is_unsure) c.self.view_is ∙ c.requires.sure in (
      λ tells.
          let mid_tells = told_before _ _ c.sync.ensures.syncs.disk tells in
          let before = told_before _ _ c.write_records.ensures.any_moment.disk mid_tells in
          let seen = c.sync.ensures.syncs.seen mid_tells in
          let size = ((c.self.invariant.0 before).sure sure).1 in
          clean_kept c.in_ok-end.end _ (g.D.Disk.state c.sync.new.self) (
            synced_settled (g.D.Disk.state c.write_records.new.disk) (g.D.Disk.state c.sync.new.self) seen (c.in_ok-sync.ensures.syncs.counts mid_tells),
            omega (arith, ap length (seen ∙ c.in_ok-end.ensures.written before), length-append (g.D.Disk.state log.disk).seen (stream_of c.args.batch.now), size, c.in_ok-end.ensures.end),
          ),
      vec_length c.write_records.new.piece log.piece.items log.piece.len _ (omega (arith, c.write_records.auto.piece, c.deref_mut.ensures.len)) (omega (arith, c.write_records.auto.piece, c.deref_mut.ensures.len, c.self.invariant.1)),
    )

pub returns-clause-clean : goal.returns-clause-clean
returns-clause-clean g c tells = let log = c.self.inside in
    let sure = ap (λ (k : LogState). k.is_unsure) c.self.view_is ∙ c.requires.sure in
    let before = subst (λ (k : LogState). IsTrue k.disk.tells) (sym c.self.view_is) tells in
    let mid_tells = told _ _ c.write_records.ensures.any_moment.disk before in
    let seen = c.sync.ensures.syncs.seen mid_tells in
    let size = ((c.self.invariant.0 before).sure sure).1 in (
      synced_settled (g.D.Disk.state c.write_records.new.disk) (g.D.Disk.state c.sync.new.self) seen (c.in_ok-sync.ensures.syncs.counts mid_tells),
      omega (arith, ap length (seen ∙ c.in_ok-end.ensures.written before), length-append (g.D.Disk.state log.disk).seen (stream_of c.args.batch.now), size, c.in_ok-end.ensures.end),
    )

pub returns-clause-cause : goal.returns-clause-cause
returns-clause-cause g c =
    let faults = g.D.Counted.faults in
    subst (λ (k : LogState). HasCause k.faults (faults c.sync.new.self) (Ok (tt {0}))) c.self.view_is
    (record { later = le_trans c.in_ok-end.ensures.cause.later c.in_ok-sync.ensures.cause.later; failed = tt })

pub returns-clause-added : goal.returns-clause-added
returns-clause-added g c members is =
    let sure = ap (λ (k : LogState). k.is_unsure) c.self.view_is ∙ c.requires.sure in
    let same = then_same _ _ _ c.write_records.ensures.any_moment.disk c.sync.ensures.syncs.disk in
    added_log_of members c.args.batch.now _ _ same c.in_ok-end.ensures.end (λ tells. (c.self.invariant.0 tells).sure sure)
    (λ tells. c.sync.ensures.syncs.seen (told _ _ c.write_records.ensures.any_moment.disk tells) ∙ c.in_ok-end.ensures.written tells)
    (subst (λ (k : LogState). IsLogOf members k) (sym c.self.view_is) is)

pub returns-clause-any_moment : goal.returns-clause-any_moment
returns-clause-any_moment g c = let log = c.self.inside in
    let sure = ap (λ (k : LogState). k.is_unsure) c.self.view_is ∙ c.requires.sure in
    let first = leaves_acknowledged log.end _ _ (λ tells. (c.self.invariant.0 tells).sure sure) c.write_records.ensures.any_moment in
    let run = then_synced _ _ _ _ _ first (g.met.D.Disk.reads c.write_records.new.disk) c.sync.ensures.syncs in
    subst (λ (k : LogState). LeavesOnly k.disk (g.D.Disk.state c.sync.new.self) (BeginsWith (acknowledged k))) c.self.view_is run
