use Rattle.std.proofs.Common.{◌<◌, ◌+◌, length, sym, ap, subst, ◌∙◌}
use Rattle.update_model.specs.declared.limits.TheConstants.{MAX_MEMBERS}
use Rattle.head_set.specs.Spans.{states}
use Rattle.head_set.proofs.HeadSteps.{keeps_heads}
use Rattle.head_set.proofs.Keeping.{ended_fits, kept_more, mid_few, mid_is_before, more_exact, more_states}
use Rattle.head_set.proofs.States.{heads_rise, present_is, states_long}
use Rattle.head_set.proofs.heads.Heads.add.Goals as goal

pub end_all-ended-requires-clause-before : goal.end_all-ended-requires-clause-before
end_all-ended-requires-clause-before c =
    mid_is_before c.self.inside.spans.entries c.insert.new.self.entries c.self.inside.added c.self.inside.count c.args.id c.self.invariant
    (rw c.self.view_is c.requires.new) c.in_ok-insert.ensures.entries

pub end_all-ended-requires-clause-few : goal.end_all-ended-requires-clause-few
end_all-ended-requires-clause-few c =
    mid_few c.self.inside.spans.entries c.insert.new.self.entries c.self.inside.added c.self.inside.count c.args.id c.self.invariant
    (rw c.self.view_is c.requires.new) c.in_ok-insert.ensures.entries

pub overflow_sub-self : goal.overflow_sub-self
overflow_sub-self c =
    ended_fits c.self.inside.spans.entries c.insert.new.self.entries c.self.inside.added c.self.inside.count c.args.id c.self.invariant
    (rw c.self.view_is c.requires.new) c.in_ok-insert.ensures.entries c.end_all-ended.new.spans.entries c.end_all-ended.result c.args.preds.now
    c.end_all-ended.ensures.earlier c.end_all-ended.ensures.exact c.end_all-ended.ensures.count c.end_all-ended.ensures.before c.end_all-ended.ensures.rising

pub invariant_of-self-2 : goal.invariant_of-self-2
invariant_of-self-2 c =
    kept_more c.self.inside.spans.entries c.insert.new.self.entries c.self.inside.added c.self.inside.count c.args.id c.self.invariant
    (rw c.self.view_is c.requires.new) c.in_ok-insert.ensures.entries c.end_all-ended.new.spans.entries c.end_all-ended.result c.args.preds.now
    c.end_all-ended.ensures.earlier c.end_all-ended.ensures.exact c.end_all-ended.ensures.count c.end_all-ended.ensures.before c.end_all-ended.ensures.rising
    (subst (λ n. n < MAX_MEMBERS) (ap length (sym c.self.view_is) ∙ states_long c.self.inside.spans.entries c.self.inside.added) c.requires.room)

pub returns-clause-states : goal.returns-clause-states
returns-clause-states c =
    rw (← c.self.view_is) (more_states c.self.inside.spans.entries c.insert.new.self.entries c.self.inside.added c.self.inside.count c.args.id c.self.invariant
    (rw c.self.view_is c.requires.new) c.in_ok-insert.ensures.entries c.end_all-ended.new.spans.entries c.end_all-ended.result c.args.preds.now
    c.end_all-ended.ensures.earlier c.end_all-ended.ensures.exact c.end_all-ended.ensures.count c.end_all-ended.ensures.before c.end_all-ended.ensures.rising)

pub returns-clause-exact : goal.returns-clause-exact
returns-clause-exact c =
    rw (← c.self.view_is) (more_exact c.self.inside.spans.entries c.insert.new.self.entries c.self.inside.added c.self.inside.count c.args.id c.self.invariant
    (rw c.self.view_is c.requires.new) c.in_ok-insert.ensures.entries c.end_all-ended.new.spans.entries c.end_all-ended.result c.args.preds.now
    c.end_all-ended.ensures.earlier c.end_all-ended.ensures.exact c.end_all-ended.ensures.count c.end_all-ended.ensures.before c.end_all-ended.ensures.rising)

pub returns-clause-graph : goal.returns-clause-graph
returns-clause-graph c =
    let new = c.end_all-ended.new.spans.entries in
    let n = c.self.inside.added + 1 in
    keeps_heads c.args.self.now (states new n) c.args.id c.args.preds.now (rw (present_is new n) (heads_rise new n c.end_all-ended.ensures.rising)) (returns-clause-exact c) (returns-clause-states c)
