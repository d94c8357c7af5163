use Rattle.std.proofs.Common.{◌<◌, Bool, ℕ, ap, arith, length, sym, subst, ◌∙◌}
use Rattle.tuple_state.specs.Links.{IsBelow}
use Rattle.tuple_state.proofs.Linking.{asked_here, asked_on, below_more, link_there}
use Rattle.tuple_state.proofs.links.Links.any_ancestor.Goals as goal

pub returns-then-branch : goal.returns-then-branch
returns-then-branch g c =
    let links = c.args.self.now.links in
    let t : ℕ → Bool = λ number. g.A.Ancestors.ancestor c.args.ancestors.now number c.args.position in
    let below : c.in-Some.index < length links = subst (λ o. IsBelow o (length links)) c.in-Some.is c.loop-next.invariant.below in
    let it = link_there links c.in-Some.index below in
    sym (c.loop-next.invariant.same
    ∙ asked_here t links c.in-Some.index c.loop-next.next it.0 c.in-Some.is it.1 (ap t (sym (c.number.ensures it.0 it.1)) ∙ sym c.in_ok-is_ancestor.ensures ∙ c.if-branch.true))

pub loop-next-preserved : goal.loop-next-preserved
loop-next-preserved g c =
    let links = c.args.self.now.links in
    let t : ℕ → Bool = λ number. g.A.Ancestors.ancestor c.args.ancestors.now number c.args.position in
    let below : c.in-Some.index < length links = subst (λ o. IsBelow o (length links)) c.in-Some.is c.loop-next.invariant.below in
    let it = link_there links c.in-Some.index below in
    record {
      below = below_more c.older-next.result c.in-Some.index (length links) c.older-next.ensures.below (omega (arith, below));
      same = c.loop-next.invariant.same
          ∙ asked_on t links c.in-Some.index c.loop-next.next c.older-next.result it.0 c.in-Some.is (c.older-next.ensures.numbers it.0 it.1)
          (ap t (sym (c.number.ensures it.0 it.1)) ∙ sym c.in_ok-is_ancestor.ensures ∙ c.if-branch.false);
    }
