use Rattle.std.proofs.Common.{◌≡◌, ◌++◌, List, ℕ, drop, get_or, length, take, ap, ◌∙◌}
use Rattle.std.proofs.lemmas.List.{take_at}
use Rattle.tuple_state.proofs.known.count_shown.Goals as goal

pub returns-clause-counts : goal.returns-clause-counts
returns-clause-counts c group =
    let front : take c.resize.new.self.len (c.add_shown.new.shown ++ drop (length c.add_shown.new.shown) c.resize.new.self.items) ≡ c.add_shown.new.shown =
    take_at c.add_shown.new.shown (drop (length c.add_shown.new.shown) c.resize.new.self.items) c.resize.new.self.len (c.add_shown.auto.shown ∙ c.as_mut_slice.ensures.len) in
    ap (λ (l : List ℕ). get_or l group 0) front ∙ c.add_shown.ensures group
