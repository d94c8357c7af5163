use Rattle.std.proofs.Common.{◌<◌, ◌||◌, ℕ, All, sym, ap, ◌∙◌, subst}
use Rattle.std.specs.List.{list_any}
use Rattle.std.proofs.Math.Bool.{or-false}
use Rattle.ancestry.specs.Walks.{is_ancestor}
use Rattle.ancestry.proofs.Naming.{first_below, goes_on, none_below, none_left, rest_below}
use Rattle.ancestry.proofs.ancestry.Ancestry.climbs.Goals as goal

pub loop-init : goal.loop-init
loop-init c =
    let none = c.new-pending.ensures.empty in
    record {
      same = sym (ap (λ l. is_ancestor c.args.self.now c.args.a c.args.b || list_any (λ k. is_ancestor c.args.self.now k c.args.b) l) none ∙ or-false (is_ancestor c.args.self.now c.args.a c.args.b));
      next = c.requires.below;
      below = none_below c.args.b c.new-pending.result.keys none;
    }

pub returns-then-branch : goal.returns-then-branch
returns-then-branch c =
    let t = λ (k : ℕ). is_ancestor c.args.self.now k c.args.b in
    sym (c.loop.invariant.same ∙ ap (λ b. b || list_any t c.loop.pending.keys) (c.in_ok-look.ensures.found c.if-branch.true))

pub returns-in-None : goal.returns-in-None
returns-in-None c =
    let t = λ (k : ℕ). is_ancestor c.args.self.now k c.args.b in
    sym (c.loop.invariant.same ∙ goes_on t c.loop.next c.loop.pending.keys c.look.new.pending.keys (c.in_ok-look.ensures.goes_on c.if-branch.false) ∙ ap (list_any t) (none_left c.look.new.pending.keys c.in-None.ensures.variant.1))

pub loop-preserved : goal.loop-preserved
loop-preserved c =
    let t = λ (k : ℕ). is_ancestor c.args.self.now k c.args.b in
    let below = subst (All (λ k. k < c.args.b)) c.in-Some.ensures.removal (c.in_ok-look.ensures.lower c.loop.invariant.below) in
    record {
      same = c.loop.invariant.same ∙ goes_on t c.loop.next c.loop.pending.keys c.look.new.pending.keys (c.in_ok-look.ensures.goes_on c.if-branch.false) ∙ ap (list_any t) c.in-Some.ensures.removal;
      next = first_below c.args.b c.in-Some.member c.pop_first.new.self.keys below;
      below = rest_below c.args.b c.in-Some.member c.pop_first.new.self.keys below;
    }
