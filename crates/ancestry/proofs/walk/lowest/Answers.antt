use Rattle.std.proofs.Common.{◌<◌, ◌+◌, ◌||◌, ◌∙◌, ap, arith, length, sym}
use Rattle.std.specs.Prelude.{◌==◌}
use Rattle.std.specs.List.{list_any}
use Rattle.std.proofs.lemmas.List.{take_all}
use Rattle.std.proofs.lemmas.List.Folds.{list_any_more}
use Rattle.ancestry.proofs.walk.lowest.Goals as goal

pub loop-position-preserved : goal.loop-position-preserved
loop-position-preserved c =
    let here : c.loop-position.position-index < length c.args.positions.now = omega arith in
    record {
      least = omega (arith, c.lower-low.ensures.least, c.loop-position.invariant.least);
      below = λ k under.
          list_any_more (λ p. p == c.args.first + k) c.args.positions.now c.loop-position.position-index _ here
          ∙ (λ i. c.loop-position.invariant.below k (omega (arith, under, c.lower-low.ensures.least)) i || c.lower-low.ensures.below k under i);
    }

pub returns-clause-below : goal.returns-clause-below
returns-clause-below c = λ k under.
    ap (list_any (λ p. p == c.args.first + k)) (sym (take_all c.loop-position.position-index c.args.positions.now (omega arith))) ∙ c.loop-position.invariant.below k under
