use Rattle.std.proofs.Common.{ℕ, ◌<◌, ◌≤◌, Bool, sym, subst, ◌∙◌}
use Rattle.tuple_state.proofs.Dropping.{row_there}
use Rattle.tuple_state.proofs.Restricting.{child_is, holds_at, none_at_end, none_yet, some_here}
use Rattle.tuple_state.specs.State.{rules_of_state}
use Rattle.tuple_state.proofs.Layers.{grounded_is}
use Rattle.tuple_state.proofs.at.AtRowsAt.restrict_child.Goals as goal

pub returns-then-not-may_be_held : goal.returns-then-not-may_be_held
returns-then-not-may_be_held g c = sym (c.may_be_held.ensures c.if-not-may_be_held.true)

pub returns-then-branch : goal.returns-then-branch
returns-then-branch g c =
    let s = c.args.self.now.tables.now in
    let past : ℕ → Bool = λ p. g.A.Ancestors.ancestor c.args.self.now.ancestors.now p c.args.self.now.position in
    let row = row_there s.inserted c.loop-place.place (subst (λ n. c.loop-place.place < n) c.row_len-place-end.ensures.len c.loop-place-test.true) in
    sym (child_is s past c.args.name.now ∙ some_here _ s.inserted c.loop-place.place row.0 row.1
    (holds_at s past c.args.name.now c.args.self.now.founded c.args.self.now.layered (sym (grounded_is (rules_of_state c.args.self.now.tables.now) _) ∙ c.args.self.now.grounded) c.loop-place.place row.0 _ row.1 (c.in_ok-restricts.ensures row.0 row.1) ∙ c.if-branch.true))

pub loop-place-preserved : goal.loop-place-preserved
loop-place-preserved g c =
    let s = c.args.self.now.tables.now in
    let past : ℕ → Bool = λ p. g.A.Ancestors.ancestor c.args.self.now.ancestors.now p c.args.self.now.position in
    let below = subst (λ n. c.loop-place.place < n) c.row_len-place-end.ensures.len c.loop-place-test.true in
    let row = row_there s.inserted c.loop-place.place below in
    none_yet _ s.inserted c.loop-place.place row.0 row.1 below c.loop-place.invariant
    (holds_at s past c.args.name.now c.args.self.now.founded c.args.self.now.layered (sym (grounded_is (rules_of_state c.args.self.now.tables.now) _) ∙ c.args.self.now.grounded) c.loop-place.place row.0 _ row.1 (c.in_ok-restricts.ensures row.0 row.1) ∙ c.if-branch.false)

pub returns : goal.returns
returns g c =
    let s = c.args.self.now.tables.now in
    let past : ℕ → Bool = λ p. g.A.Ancestors.ancestor c.args.self.now.ancestors.now p c.args.self.now.position in
    sym (child_is s past c.args.name.now ∙ none_at_end _ s.inserted c.loop-place.place (subst (λ n. n ≤ c.loop-place.place) c.row_len-place-end.ensures.len c.loop-place-test.false) c.loop-place.invariant)
