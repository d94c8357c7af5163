use Rattle.std.proofs.Common.{ℕ, List, [], ◌∷◌, ◌++◌, sym, ap, subst, ◌∙◌, append_assoc, All, Result, Ok, Err}
use Rattle.std.specs.Prelude.{OnErr}
use Rattle.std.specs.Vec.Iter.{into_iter_items}
use Rattle.update_check.specs.Members.{AreMembers}
use Rattle.update_check.specs.Signed.{IsChecked}
use Rattle.update_log.proofs.Scanning.{middle_of}
use Rattle.update_log.proofs.opening.take_front.Goals as goal

on_err : {T E X : Type 0} (result : Result T E) → X → OnErr result X
on_err (Ok value) x = tt
on_err (Err error) x = x

pub take_update-requires-clause-checked : goal.take_update-requires-clause-checked
take_update-requires-clause-checked c =
    let steps = rw c.in-Some.is at c.next.ensures.steps in
    middle_of (IsChecked c.args.rule.now) c.loop-update.yielded (into_iter_items c.next.new.self) c.in-Some.update
    (subst (All (IsChecked c.args.rule.now)) (c.loop-update.invariant.left ∙ ap (λ (l : List (List ℕ)). c.loop-update.yielded ++ l) steps.0) c.requires.checked)

pub returns-then-not-branch-clause-taken : goal.returns-then-not-branch-clause-taken
returns-then-not-branch-clause-taken c =
    let steps = rw c.in-Some.is at c.next.ensures.steps in
    let refused = rw c.if-not-branch.true at c.in_ok-take_update.ensures.taken in
    let update = c.in-Some.update in
    record {
      taken = c.loop-update.yielded;
      next = update;
      more = into_iter_items c.next.new.self;
      parts = c.loop-update.invariant.left ∙ ap (λ (l : List (List ℕ)). c.loop-update.yielded ++ l) steps.0;
      list = refused.0 ∙ c.loop-update.invariant.list;
      members = subst (AreMembers c.args.rule.now) (sym refused.0) c.loop-update.invariant.members;
      refused = subst (λ (l : List (List ℕ)). AreMembers c.args.rule.now (l ++ update ∷ []) → ⊥) (sym refused.0) refused.1;
    }

pub loop-update-preserved : goal.loop-update-preserved
loop-update-preserved c =
    let steps = rw c.in-Some.is at c.next.ensures.steps in
    let taken = rw c.if-not-branch.false at c.in_ok-take_update.ensures.taken in
    let update = c.in-Some.update in
    record {
      list = taken.0 ∙ ap (λ (l : List (List ℕ)). l ++ update ∷ []) c.loop-update.invariant.list ∙ append_assoc c.args.graph.now c.loop-update.yielded (update ∷ []);
      members = taken.1;
      left = c.loop-update.invariant.left ∙ ap (λ (l : List (List ℕ)). c.loop-update.yielded ++ l) steps.0 ∙ sym (append_assoc c.loop-update.yielded (update ∷ []) (into_iter_items c.next.new.self));
    }

pub returns-in_err-take_update-clause-memory : goal.returns-in_err-take_update-clause-memory
returns-in_err-take_update-clause-memory c =
    let steps = rw c.in-Some.is at c.next.ensures.steps in
    let update = c.in-Some.update in
    on_err c.from_residual.result (record {
      taken = c.loop-update.yielded;
      next = update;
      more = into_iter_items c.next.new.self;
      parts = c.loop-update.invariant.left ∙ ap (λ (l : List (List ℕ)). c.loop-update.yielded ++ l) steps.0;
      members = subst (λ (l : List (List ℕ)). AreMembers c.args.rule.now (l ++ update ∷ [])) c.loop-update.invariant.list c.in_err-take_update.ensures.memory;
    })
