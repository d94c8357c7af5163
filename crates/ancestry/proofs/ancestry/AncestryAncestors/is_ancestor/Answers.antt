use Rattle.std.proofs.Common.{sym, arith, ap, ◌∙◌, ◌||◌, List, ℕ, All, ◌<◌, length, subst}
use Rattle.std.proofs.lemmas.Bool.{ne_eqb}
use Rattle.ancestry.specs.Walks.{is_ancestor}
use Rattle.ancestry.proofs.Steps.{names_below, none_there, not_below, preds_read}
use Rattle.ancestry.proofs.ancestry.AncestryAncestors.is_ancestor.Goals.{then-b-a-via-then-b-a, then-b-a-via-else-b-a+then-len-b}
use Rattle.ancestry.proofs.ancestry.AncestryAncestors.is_ancestor.Goals as goal

pub returns-then-b-a : goal.returns-then-b-a
returns-then-b-a c = elim c.then-b-a.branch [
  | then-b-a-via-then-b-a w ↦ sym (not_below c.args.self.now c.args.a c.args.b c.len-len.ensures.lower w.if-b-a.true)
  | then-b-a-via-else-b-a+then-len-b w ↦ sym (none_there c.args.self.now c.args.a c.args.b (omega arith))
]

pub returns-in-Some : goal.returns-in-Some
returns-in-Some c = c.in-Some.ensures.told ∙ ap (λ t. t || is_ancestor c.args.self.now c.args.a c.args.b) (ne_eqb c.args.a c.args.b (λ e. absurd (omega arith)))

pub returns-then-are_below : goal.returns-then-are_below
returns-then-are_below c =
    let members = c.self.inside.members.items in
    let held : c.args.b < length members = subst (λ (g : List (List ℕ)). c.args.b < length g) (sym c.self.view_is) (omega arith) in
    rw (← c.self.view_is) (sym (names_below members c.args.a c.args.b c.self.invariant.lower
    (subst (All (λ p. p < c.args.a)) (sym (preds_read members c.args.b c.as_slice.result.now held (rw c.as_slice.ensures c.index.ensures))) (c.are_below.ensures.0 c.if-are_below.true))))
