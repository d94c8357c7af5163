use Rattle.std.proofs.Common.{◌≡◌, refl, rules}
use Rattle.tuple_state.proofs.Valuing.{left_below}
use Rattle.tuple_state.proofs.values.Values.cut.Goals as goal

pub returns : goal.returns
returns c key =
    left_below _ (λ f. f.0.now ≡ c.args.rows) c.args.rows (λ f k v b w g i t. (search (rules, i, t), search (rules, i, t), search (rules, i, t))) key
    _ c.args.self.now.firsts.entries c.retain.new.self.entries refl c.retain.ensures.filtered c.retain.ensures.was_ordered
