use Rattle.std.proofs.Common.{ℕ, arith}
use Rattle.std.proofs.lemmas.List.{length-take, length-drop}
use Rattle.bec_bytes.proofs.Pieces.{Appends-more}
use Rattle.bec_bytes.proofs.moving.write_all_of.Goals as goal

pub loop-written-preserved : goal.loop-written-preserved
loop-written-preserved g c =
    let put = c.in_ok-written.ensures in
    record {
      within = omega (arith, put.bound, length-take {A = ℕ}, length-drop {A = ℕ});
      wrote = Appends-more _ _ _ _ _ _ c.loop-written.invariant.wrote put.bytes;
      later = omega (arith, c.loop-written.invariant.later, put.cause.later);
    }
