use Rattle.head_set.specs.Present.{present}
use Rattle.history.proofs.Fronts.{all_heads}
use Rattle.history.proofs.history.History.head_count.Goals as goal

pub returns : goal.returns
returns g c =
    let at = c.self.inside in
    rw (← c.self.view_is) (present at.views.heads, all_heads g.L.Relation.answer at.schema at.graph at.views c.self.invariant.are, c.len.ensures.value)
