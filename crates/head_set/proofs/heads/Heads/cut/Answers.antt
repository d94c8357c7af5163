use Rattle.std.proofs.Common.{◌≡◌, ◌≤◌, ◌∙◌, length, sym, ap, subst, refl, rules}
use Rattle.head_set.proofs.Keeping.{kept_fewer, left_few, left_states}
use Rattle.head_set.proofs.States.{states_long}
use Rattle.head_set.proofs.heads.Heads.cut.Goals as goal

pub count_unended-self-inside-requires : goal.count_unended-self-inside-requires
count_unended-self-inside-requires c =
    left_few _ (λ f. f.0.now ≡ c.args.len) c.args.len (λ f k v b w g i t. (search (rules, i, t), search (rules, i, t), search (rules, i, t)))
    _ c.self.inside.spans.entries c.retain.new.self.entries c.self.inside.added c.self.inside.count c.self.invariant refl c.retain.ensures.filtered
    (subst (λ n. c.args.len ≤ n) (ap length (sym c.self.view_is) ∙ states_long c.self.inside.spans.entries c.self.inside.added) c.requires)

pub invariant_of-self : goal.invariant_of-self
invariant_of-self c =
    rw c.count_unended-self-inside.ensures
    (kept_fewer _ (λ f. f.0.now ≡ c.args.len) c.args.len (λ f k v b w g i t. (search (rules, i, t), search (rules, i, t), search (rules, i, t)))
    _ c.self.inside.spans.entries c.retain.new.self.entries c.self.inside.added c.self.inside.count c.self.invariant refl c.retain.ensures.filtered
    (subst (λ n. c.args.len ≤ n) (ap length (sym c.self.view_is) ∙ states_long c.self.inside.spans.entries c.self.inside.added) c.requires) c.retain.ensures.ordered)

pub returns : goal.returns
returns c =
    rw (← c.self.view_is)
    (left_states _ (λ f. f.0.now ≡ c.args.len) c.args.len (λ f k v b w g i t. (search (rules, i, t), search (rules, i, t), search (rules, i, t)))
    _ c.self.inside.spans.entries c.retain.new.self.entries c.self.inside.added c.self.inside.count c.self.invariant refl c.retain.ensures.filtered
    (subst (λ n. c.args.len ≤ n) (ap length (sym c.self.view_is) ∙ states_long c.self.inside.spans.entries c.self.inside.added) c.requires))
