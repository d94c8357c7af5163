use Rattle.std.proofs.Common.{◌≡◌, ◌++◌, List, Vec, Result, sym, ap, subst, ◌∙◌, append-nil, ℕ}
use Rattle.std.proofs.lemmas.List.{nil_from_length}
use Rattle.std.specs.declared.alloc.Global.{Global}
use Rattle.std.specs.Vec.Iter.{into_iter_items}
use Rattle.update_check.specs.declared.check_error.CheckFault.{CheckFault}
use Rattle.record_check.specs.Records.{bytes_of, AreAnswers}
use Rattle.link_frames.proofs.Checking.{puts_run}
use Rattle.link_frames.proofs.hearing.put_checked.Goals as goal

pub returns-clause-puts : goal.returns-clause-puts
returns-clause-puts g c =
    let none = nil_from_length (into_iter_items c.loop-answer.answer-iterator) (sym c.loop-answer.answer-iterator.rest.ok.0 ∙ (rw c.in-None.is at c.next.ensures.steps).0) in
    let all : c.loop-answer.yielded ≡ c.in_ok-answer-items.answer-items.items =
    sym (sym c.into_iter-answer-iterator.ensures.into_iter_gives.0 ∙ c.loop-answer.invariant.left ∙ ap (λ (l : List (Result (List ℕ) CheckFault)). c.loop-answer.yielded ++ l) none ∙ append-nil c.loop-answer.yielded) in
    puts_run c.args.rule.now (bytes_of c.args.run.now.items) c.loop-answer.yielded c.args.all.now.items c.loop-answer.all.items
    (subst (λ (r : List (Vec ℕ Global)). AreAnswers c.args.rule.now (bytes_of r) c.loop-answer.yielded) (ap (λ (v : Vec (Vec ℕ Global) Global). v.items) c.replace-records.ensures.value) (subst (AreAnswers c.args.rule.now (bytes_of c.replace-records.result.items)) (sym all) c.in_ok-answer-items.ensures)) c.loop-answer.invariant.put
