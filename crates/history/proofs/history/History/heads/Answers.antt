use Rattle.std.proofs.Common.{List, map, sym, subst}
use Rattle.update_model.specs.declared.update_id.UpdateId.{UpdateId}
use Rattle.update_model.specs.Graph.{AreHeads}
use Rattle.update_codec.specs.Parts.{entry_of}
use Rattle.history.proofs.Fronts.{all_heads}
use Rattle.history.proofs.history.History.heads.Goals as goal

pub returns : goal.returns
returns g c =
    let at = c.self.inside in
    rw (← c.self.view_is) (subst (λ (l : List UpdateId). AreHeads (map entry_of at.graph) l) (sym c.in_ok-heads.ensures.items)
    (all_heads g.L.Relation.answer at.schema at.graph at.views c.self.invariant.are))
