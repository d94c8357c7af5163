use Rattle.std.proofs.Common.{◌∙◌, length, sym, ap}
use Rattle.bec_disk.proofs.Moments.{told_before}
use Rattle.update_log.proofs.Keeping.{clean_kept}
use Rattle.update_log.proofs.log.Log.open_log.Goals as goal

pub invariant_of-log : goal.invariant_of-log
invariant_of-log g c = (
  λ tells.
      let before = told_before _ _ c.in-Ok.ensures.any_moment.disk tells in
      clean_kept c.in-Ok.opened.end _ _ (c.in-Ok.ensures.settled before, ap length (c.in-Ok.ensures.seen before) ∙ sym c.in-Ok.ensures.end),
  c.in-Ok.ensures.room,
)
