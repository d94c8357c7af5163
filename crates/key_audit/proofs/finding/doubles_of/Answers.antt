use Rattle.std.proofs.Common.{◌∙◌, ◌++◌, List, sym, ap, append_assoc, append-nil}
use Rattle.key_audit.specs.Walk.{double_at, doubles_in}
use Rattle.key_audit.specs.declared.doubled.Doubled.{Doubled}
use Rattle.key_audit.proofs.finding.doubles_of.Goals as goal

pub loop-key-init : goal.loop-key-init
loop-key-init c =
    ap (λ (l : List Doubled). l ++ doubles_in c.into_iter-key-iterator.result) c.new-doubles.ensures.items ∙ ap doubles_in c.into_iter-key-iterator.ensures.into_iter_gives.0

pub loop-key-preserved : goal.loop-key-preserved
loop-key-preserved c =
    ap (λ (l : List Doubled). l ++ doubles_in c.next.new.self) c.in_ok-push_double.ensures
    ∙ append_assoc c.loop-key.doubles.items (double_at c.in-Some.key.now c.in-Some.pair.now) (doubles_in c.next.new.self)
    ∙ ap (λ (l : List Doubled). c.loop-key.doubles.items ++ l) (sym (ap doubles_in c.in-Some.ensures.steps)) ∙ c.loop-key.invariant

pub returns : goal.returns
returns c =
    sym (append-nil c.loop-key.doubles.items) ∙ ap (λ (l : List Doubled). c.loop-key.doubles.items ++ l) (sym (ap doubles_in c.in-None.ensures.steps.0)) ∙ c.loop-key.invariant
