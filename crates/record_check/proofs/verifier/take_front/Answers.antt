use Rattle.std.proofs.Common.{◌∷◌, ap, sym, subst, ◌∙◌}
use Rattle.std.proofs.lemmas.List.{nil_from_length}
use Rattle.std.specs.Vec.Iter.{into_iter_items}
use Rattle.record_check.specs.Records.{AreAnswers}
use Rattle.record_check.proofs.Records.{Said, Stops, front_of_answers}
use Rattle.record_check.proofs.verifier.take_front.Goals as goal

pub returns-in-Err : goal.returns-in-Err
returns-in-Err c rule records said =
    let steps = rw c.in-Some.is at c.next.ensures.steps in
    front_of_answers rule (c.no_cause.ensures rule) records c.loop-answer.front.items (into_iter_items c.loop-answer.answer-iterator)
    (subst (AreAnswers rule records) c.loop-answer.invariant.said said)
    (subst Stops (sym (steps.0 ∙ ap (λ (a : Said). a ∷ into_iter_items c.next.new.self) c.in-Err.is)) tt)

pub returns : goal.returns
returns c rule records said =
    let none = nil_from_length (into_iter_items c.loop-answer.answer-iterator) (sym c.loop-answer.answer-iterator.rest.ok.0 ∙ (rw c.in-None.is at c.next.ensures.steps).0) in
    front_of_answers rule (c.no_cause.ensures rule) records c.loop-answer.front.items (into_iter_items c.loop-answer.answer-iterator)
    (subst (AreAnswers rule records) c.loop-answer.invariant.said said) (subst Stops (sym none) tt)
