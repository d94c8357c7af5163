use Rattle.std.proofs.Common.{◌∙◌, refl, sym, ap, subst, arith}
use Rattle.std.proofs.lemmas.List.{length-take-le}
use Rattle.bec_disk.specs.Disk.{LeavesOnly}
use Rattle.bec_disk.proofs.Moments.{told_before}
use Rattle.update_log.specs.Log.{LogState, IsLogOf, acknowledged}
use Rattle.update_log.specs.Logset.{BeginsWith}
use Rattle.update_log.proofs.Keeping.{clean_kept, cut_kept, still_kept, still_log_of}
use Rattle.update_log.proofs.log.Log.repair.Goals as goal

pub invariant_of-self : goal.invariant_of-self
invariant_of-self g c = let log = c.self.inside in
    let run = cut_kept log.end log.is_unsure _ _ c.self.invariant.0 c.cut_synced.ensures.any_moment in
    (still_kept log.end log.is_unsure _ _ c.self.invariant.0 run (g.met.D.Disk.reads c.cut_synced.new.disk), c.self.invariant.1)

pub returns-in_err-cut_synced-clause-kept : goal.returns-in_err-cut_synced-clause-kept
returns-in_err-cut_synced-clause-kept g c members is = let log = c.self.inside in
    let run = cut_kept log.end log.is_unsure _ _ c.self.invariant.0 c.cut_synced.ensures.any_moment in
    still_log_of members log.is_unsure _ _ refl c.self.invariant.0 run (g.met.D.Disk.reads c.cut_synced.new.disk) (subst (λ (k : LogState). IsLogOf members k) (sym c.self.view_is) is)

pub returns-in_err-cut_synced-clause-any_moment : goal.returns-in_err-cut_synced-clause-any_moment
returns-in_err-cut_synced-clause-any_moment g c = let log = c.self.inside in
    subst (λ (k : LogState). LeavesOnly k.disk (g.D.Disk.state c.cut_synced.new.disk) (BeginsWith (acknowledged k))) c.self.view_is
    (cut_kept log.end log.is_unsure _ _ c.self.invariant.0 c.cut_synced.ensures.any_moment)

pub invariant_of-self-2 : goal.invariant_of-self-2
invariant_of-self-2 g c = let log = c.self.inside in (
  λ tells.
      let before = told_before _ _ c.cut_synced.ensures.any_moment.disk tells in
      clean_kept log.end _ _ (
        c.in_ok-cut_synced.ensures.settled before,
        ap Rattle.std.proofs.Common.length (c.in_ok-cut_synced.ensures.cut before) ∙ length-take-le log.end (g.D.Disk.state log.disk).seen (c.self.invariant.0 before).long,
      ),
  c.self.invariant.1,
)

pub returns-clause-any_moment : goal.returns-clause-any_moment
returns-clause-any_moment g c = let log = c.self.inside in
    subst (λ (k : LogState). LeavesOnly k.disk (g.D.Disk.state c.cut_synced.new.disk) (BeginsWith (acknowledged k))) c.self.view_is
    (cut_kept log.end log.is_unsure _ _ c.self.invariant.0 c.cut_synced.ensures.any_moment)
