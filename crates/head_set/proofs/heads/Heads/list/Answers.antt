use Rattle.std.proofs.Common.{◌∙◌, ◌++◌, ◌∷◌, [], List, sym, ap, append_assoc, append-nil}
use Rattle.update_model.specs.declared.update_id.UpdateId.{UpdateId}
use Rattle.head_set.specs.Spans.{unended}
use Rattle.head_set.proofs.Spanned.{heads_unended, unended_next, unended_none}
use Rattle.head_set.proofs.States.{heads_rise, present_is}
use Rattle.head_set.proofs.heads.Heads.list.Goals as goal

pub loop-id-init : goal.loop-id-init
loop-id-init c =
    rw (← c.self.view_is, present_is c.self.inside.spans.entries c.self.inside.added, heads_unended c.self.inside.spans.entries c.self.inside.added c.self.invariant.before, c.in_ok-list.ensures.items)
    (ap unended c.into_iter-id-iterator.ensures.into_iter_gives.0)

pub loop-id-preserved-in-Continue-branch-2 : goal.loop-id-preserved-in-Continue-branch-2
loop-id-preserved-in-Continue-branch-2 c =
    let next = unended_next c.loop-id.id-iterator c.next.new.self (c.in-Some.id.now, c.in-Some.span.now) c.is_none.result c.in-Some.ensures.steps c.is_none.ensures in
    let more = rw c.if-is_none.true at next in
    rw c.in_ok-push.ensures.items (append_assoc c.loop-id.list.items (c.in-Some.id.now ∷ []) (unended c.next.new.self) ∙ ap (λ (ids : List UpdateId). c.loop-id.list.items ++ ids) (sym more) ∙ c.loop-id.invariant)

pub loop-id-preserved : goal.loop-id-preserved
loop-id-preserved c =
    let next = unended_next c.loop-id.id-iterator c.next.new.self (c.in-Some.id.now, c.in-Some.span.now) c.is_none.result c.in-Some.ensures.steps c.is_none.ensures in
    let same = rw c.if-is_none.false at next in
    ap (λ (ids : List UpdateId). c.loop-id.list.items ++ ids) (sym same) ∙ c.loop-id.invariant

pub returns-clause-items : goal.returns-clause-items
returns-clause-items c =
    sym (append-nil c.loop-id.list.items) ∙ ap (λ (ids : List UpdateId). c.loop-id.list.items ++ ids) (sym (unended_none c.loop-id.id-iterator c.in-None.ensures.steps.0)) ∙ c.loop-id.invariant

pub returns-clause-rising : goal.returns-clause-rising
returns-clause-rising c =
    rw (returns-clause-items c, ← c.self.view_is, present_is c.self.inside.spans.entries c.self.inside.added) (heads_rise c.self.inside.spans.entries c.self.inside.added c.self.invariant.rising)
