use Rattle.std.proofs.Common.{◌≤◌, length, arith}
use Rattle.bec_bytes.proofs.Pieces.{Consumes-more, within-put_mid}
use Rattle.bec_bytes.proofs.moving.read_full.Goals as goal

pub loop-filled-preserved : goal.loop-filled-preserved
loop-filled-preserved g c =
    let got = c.in_ok-count.ensures in
    let fits : c.in_ok-count.count ≤ length c.take.new.buf = got.bound.0 in
    record {
      within = within-put_mid _ _ _ _ _ c.loop-filled.invariant.within fits;
      read = Consumes-more _ _ _ _ _ _ _ _ c.loop-filled.invariant.within fits c.loop-filled.invariant.read got.bytes.0;
      later = omega (arith, c.loop-filled.invariant.later, got.cause.later);
    }
