use Rattle.std.proofs.Common.{◌≡◌, ◌<◌, ℕ, suc, true, length, slice_index_or, slice_set, arith, refl, ap, ◌∙◌}
use Rattle.std.specs.Prelude.{◌==◌}
use Rattle.std.specs.List.{list_any}
use Rattle.std.proofs.lemmas.List.{take_all}
use Rattle.ancestry.specs.Named.{is_noted}
use Rattle.ancestry.proofs.Naming.{noted_set, noted_more, pushed, pushed_there}
use Rattle.ancestry.proofs.namers.note.Goals as goal

pub loop-pred-init : goal.loop-pred-init
loop-pred-init c = record { kept = λ p q e. e; noted = λ p e. absurd cc }

pub returns-in_err-push-clause-kept : goal.returns-in_err-push-clause-kept
returns-in_err-push-clause-kept c p q e =
    let i = slice_index_or c.args.preds.now c.loop-pred.pred-index 0 in
    let inside : i < length c.loop-pred.namers = let f = c.requires c.loop-pred.pred-index 0 c.loop-pred-test.true in let l = c.loop-pred.auto.namers in omega arith in
    let is = c.in_err-push.ensures.same in
    noted_set c.loop-pred.namers i (suc q) c.index-namers-pred.result c.push.new.self inside c.index-namers-pred.is
    (λ k under h. rw is (rw (← c.index-namers-pred.is) h)) p q (omega arith) (c.loop-pred.invariant.kept p q e)

pub loop-pred-preserved : goal.loop-pred-preserved
loop-pred-preserved c =
    let i = slice_index_or c.args.preds.now c.loop-pred.pred-index 0 in
    let d = c.index-namers-pred.result in
    let inside : i < length c.loop-pred.namers = let f = c.requires c.loop-pred.pred-index 0 c.loop-pred-test.true in let l = c.loop-pred.auto.namers in omega arith in
    let is = rw (← c.index-namers-pred.is) at c.in_ok-push.ensures.value in
    let stay : (p q : ℕ) → is_noted c.loop-pred.namers p q ≡ true → is_noted (slice_set c.loop-pred.namers i c.push.new.self) p q ≡ true =
    λ p q e. noted_set c.loop-pred.namers i (suc q) d c.push.new.self inside c.index-namers-pred.is (λ k under h. pushed d c.push.new.self c.args.position k is h) p q (omega arith) e in
    record {
      kept = λ p q e. stay p q (c.loop-pred.invariant.kept p q e);
      noted = λ p e. noted_more c.loop-pred.namers (slice_set c.loop-pred.namers i c.push.new.self) c.args.preds.now c.push.new.self c.loop-pred.pred-index c.args.position p c.loop-pred-test.true inside refl
          (pushed_there d c.push.new.self c.args.position is) (λ q h. stay q c.args.position h) (c.loop-pred.invariant.noted p) e;
    }

pub returns-clause-kept : goal.returns-clause-kept
returns-clause-kept c = c.loop-pred.invariant.kept

pub returns-clause-noted : goal.returns-clause-noted
returns-clause-noted c p e = c.loop-pred.invariant.noted p (ap (list_any (λ k. k == p)) (take_all c.loop-pred.pred-index c.args.preds.now c.loop-pred-test.false) ∙ e)
