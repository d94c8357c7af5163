use Rattle.std.proofs.Common.{ℕ, take, ap, ◌∙◌}
use Rattle.replica.proofs.make.least_heads.Goals as goal

pub returns : goal.returns
returns g c =
    (c.in_ok-heads.heads.items, c.in_ok-heads.ensures, c.from_vec.ensures ∙ c.truncate.ensures.items ∙ ap (λ (n : ℕ). take n c.in_ok-heads.heads.items) c.from.ensures)
