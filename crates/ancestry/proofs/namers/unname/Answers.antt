use Rattle.std.proofs.Common.{◌<◌, All, length, arith, subst}
use Rattle.std.proofs.lemmas.List.Elements.{All-weaker}
use Rattle.ancestry.proofs.Steps.{preds_read}
use Rattle.ancestry.proofs.namers.unname.Goals as goal

pub loop-position-init : goal.loop-position-init
loop-position-init c p q low e = e

pub forget-requires : goal.forget-requires
forget-requires c =
    let k = c.loop-position.position in
    let own = subst (All (λ p. p < k)) (preds_read c.args.members.now k c.as_slice.result.now c.loop-position-test.true (rw c.as_slice.ensures c.index-members-position.is)) (c.requires.lower k) in
    All-weaker (λ p. p < k) (λ p. p < length c.loop-position.namers) (λ p below. let l = c.loop-position.auto.namers in let m = c.requires.long in let n = c.loop-position-test.true in omega arith) c.as_slice.result.now own

pub loop-position-preserved : goal.loop-position-preserved
loop-position-preserved c p q low e = c.forget.ensures p q low (c.loop-position.invariant p q low e)

pub returns : goal.returns
returns c = c.loop-position.invariant
