use Rattle.std.proofs.Common.{◌≡◌, ◌<◌, ◌++◌, [], ◌∷◌, Some, length, ap, sym, subst, ◌∙◌}
use Rattle.std.specs.Prelude.{slice_get}
use Rattle.tuple_state.specs.Links.{Linked, numbers_from}
use Rattle.tuple_state.proofs.Linking.{before_below, before_numbers}
use Rattle.tuple_state.proofs.links.Links.older.Goals as goal

pub returns-clause-below : goal.returns-clause-below
returns-clause-below c =
    let it = c.self.inside in
    before_below it.newest.items it.older.items it.links.items c.self.invariant c.args.index c.index.result.now (subst (λ (d : Linked). c.args.index < length d.links) (sym c.self.view_is) c.requires) c.index.ensures

pub returns-clause-numbers : goal.returns-clause-numbers
returns-clause-numbers c link at =
    let it = c.self.inside in
    subst (λ (d : Linked). numbers_from d.links (Some c.args.index) ≡ numbers_from d.links c.index.result.now ++ link.number ∷ []) c.self.view_is
    (before_numbers it.newest.items it.older.items it.links.items c.self.invariant c.args.index link c.index.result.now (ap (λ (d : Linked). slice_get d.links c.args.index) c.self.view_is ∙ at) c.index.ensures)
