use Rattle.std.proofs.Common.{take, ◌+◌, sym, subst}
use Rattle.bec_disk.specs.Left.{AreLeft}
use Rattle.bec_disk.proofs.Crashes.{entry_left, next_left}
use Rattle.bec_disk.proofs.shelved.left_of.Goals as goal

pub loop-entry-preserved : goal.loop-entry-preserved
loop-entry-preserved c =
    let i = c.loop-entry.entry-index in
    let one = entry_left c.args.choice c.entry-item.result c.in_ok-place.place c.in_ok-disk.disk c.in_ok-place.ensures c.in_ok-disk.ensures in
    subst (AreLeft c.args.choice (take (i + 1) c.args.entries.now)) (sym c.in_ok-push.ensures.items)
    (next_left c.args.choice c.args.entries.now c.loop-entry.left.items i c.entry-item.result (record { place = c.in_ok-place.place; disk = c.in_ok-disk.disk }) c.loop-entry-test.true c.entry-item.is c.loop-entry.invariant one)
