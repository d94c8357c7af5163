use Rattle.std.proofs.Common.{◌≡◌, Some, arith, List, Bool, subst}
use Rattle.key_index.specs.Used.{least_unused}
use Rattle.key_index.proofs.IndexLaws.{is_least, least_at}
use Rattle.key_index.proofs.indices.Indices.least.Goals as goal

pub overflow_cast-result : goal.overflow_cast-result
overflow_cast-result c =
    let least = is_least _ _ _ c.self.invariant (λ e. absurd (omega (arith, c.self.inside.used.ok.0))) in
    omega (arith, least.within, c.self.invariant.few)

pub returns : goal.returns
returns c =
    subst (λ (used : List Bool). Some c.self.inside.next ≡ least_unused used) c.self.view_is
    (least_at _ _ _ c.self.invariant (λ e. absurd (omega (arith, c.self.inside.used.ok.0))))
