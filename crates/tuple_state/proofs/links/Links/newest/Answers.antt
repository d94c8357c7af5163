use Rattle.std.proofs.Common.{◌≡◌, ◌<◌, length, sym, subst}
use Rattle.tuple_state.specs.Links.{IsBelow, Linked, numbers_from, numbers_of}
use Rattle.tuple_state.proofs.Linking.{last_below, last_numbers}
use Rattle.tuple_state.proofs.links.Links.newest.Goals as goal

pub returns-clause-below : goal.returns-clause-below
returns-clause-below c =
    let it = c.self.inside in
    let inside = subst (λ (d : Linked). c.args.place < d.size) (sym c.self.view_is) c.requires in
    subst (λ (d : Linked). IsBelow c.index.result.now (length d.links)) c.self.view_is (last_below it.newest.items it.older.items it.links.items c.self.invariant c.args.place c.index.result.now inside c.index.ensures)

pub returns-clause-numbers : goal.returns-clause-numbers
returns-clause-numbers c =
    let it = c.self.inside in
    let inside = subst (λ (d : Linked). c.args.place < d.size) (sym c.self.view_is) c.requires in
    subst (λ (d : Linked). numbers_from d.links c.index.result.now ≡ numbers_of d.links c.args.place) c.self.view_is
    (last_numbers it.newest.items it.older.items it.links.items c.self.invariant c.args.place c.index.result.now inside c.index.ensures)
