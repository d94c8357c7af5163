use Rattle.std.proofs.Common.{List, [], ◌∷◌, ◌++◌, sym, ap, ◌∙◌, append_assoc, ℕ, Vec}
use Rattle.std.specs.declared.alloc.Global.{Global}
use Rattle.std.specs.Vec.Iter.{into_iter_items}
use Rattle.record_check.proofs.Records.{answers_push}
use Rattle.record_check.proofs.verifier.each_here.Goals as goal

pub loop-bytes-preserved : goal.loop-bytes-preserved
loop-bytes-preserved c =
    let steps = rw c.in-Some.is at c.next.ensures.steps in
    let bytes = c.in-Some.bytes in
    record {
      said = answers_push c.args.rule.now c.loop-bytes.yielded bytes c.loop-bytes.answers.items _ c.in_ok-answer.field-0 c.loop-bytes.invariant.said (c.in_ok-answer.ensures, tt) c.in_ok-push.ensures.items;
      left = c.loop-bytes.invariant.left ∙ ap (λ (l : List (Vec ℕ Global)). c.loop-bytes.yielded ++ l) steps.0
          ∙ sym (append_assoc c.loop-bytes.yielded (bytes ∷ []) (into_iter_items c.next.new.self));
    }
