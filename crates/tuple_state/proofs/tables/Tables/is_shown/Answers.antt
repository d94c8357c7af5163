use Rattle.std.proofs.Common.{ap, sym, ◌∙◌, arith}
use Rattle.table_model.specs.Visible.{is_visible}
use Rattle.tuple_state.specs.State.{State, done_in, rules_of_state}
use Rattle.tuple_state.proofs.Lookups.{row_found}
use Rattle.tuple_state.proofs.Listing.{none_shown}
use Rattle.tuple_state.proofs.Meaning.{mark_found}
use Rattle.tuple_state.proofs.tables.Tables.is_shown.Goals as goal

pub index-requires : goal.index-requires
index-requires c =
    let row = row_found c.self.inside.rows.items c.args.row.now c.in-Some.place.now (sym (c.self.invariant.placed c.args.row.now) ∙ sym c.in-Some.ensures.value) in
    omega (arith, row.below, c.self.invariant.each)

pub returns-in-Some : goal.returns-in-Some
returns-in-Some c =
    let inside = c.self.inside in
    let state : State = record { shapes = inside.shapes.items; count = inside.count; inserted = inside.rows.items; dropped = inside.dropped.items; voids = inside.voids.items } in
    mark_found state inside.places inside.causes.items inside.children inside.deleters inside.ends.items inside.groups c.self.invariant c.args.row.now c.in-Some.place.now (sym (c.self.invariant.placed c.args.row.now) ∙ sym c.in-Some.ensures.value) c.index.result.now c.index.ensures
    ∙ ap (λ (s : State). is_visible (rules_of_state s) (done_in s) c.args.row.now) c.self.view_is

pub returns-in-None : goal.returns-in-None
returns-in-None c =
    let inside = c.self.inside in
    let state : State = record { shapes = inside.shapes.items; count = inside.count; inserted = inside.rows.items; dropped = inside.dropped.items; voids = inside.voids.items } in
    none_shown state c.args.row.now (sym (c.self.invariant.placed c.args.row.now) ∙ sym c.in-None.ensures.value)
    ∙ ap (λ (s : State). is_visible (rules_of_state s) (done_in s) c.args.row.now) c.self.view_is
