use Rattle.std.proofs.Common.{◌<◌, length, slice_index_or, arith}
use Rattle.ancestry.proofs.Naming.{noted_set}
use Rattle.ancestry.proofs.namers.forget.Goals as goal

pub loop-pred-init : goal.loop-pred-init
loop-pred-init c p q low e = e

pub loop-pred-preserved : goal.loop-pred-preserved
loop-pred-preserved c p q low e =
    let i = slice_index_or c.args.preds.now c.loop-pred.pred-index 0 in
    let inside : i < length c.loop-pred.namers = let f = c.requires c.loop-pred.pred-index 0 c.loop-pred-test.true in let l = c.loop-pred.auto.namers in omega arith in
    noted_set c.loop-pred.namers i c.args.len c.index-namers-pred.result c.shorten.new.self inside c.index-namers-pred.is (λ k under h. c.shorten.ensures k under (rw (← c.index-namers-pred.is) h)) p q low (c.loop-pred.invariant p q low e)

pub returns : goal.returns
returns c = c.loop-pred.invariant
