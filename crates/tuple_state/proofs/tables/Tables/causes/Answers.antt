use Rattle.std.proofs.Common.{ap, subst, sym, ◌∙◌, arith}
use Rattle.std.proofs.lemmas.Bool.{both_ways}
use Rattle.tuple_state.specs.Kept.{is_named}
use Rattle.tuple_state.specs.State.{IsStateOf, State, done_in}
use Rattle.tuple_state.proofs.Lookups.{row_found, unnamed_from_none}
use Rattle.tuple_state.proofs.Once.{causes_now}
use Rattle.tuple_state.proofs.tables.Tables.causes.Goals as goal

pub index-requires : goal.index-requires
index-requires c =
    let row = row_found c.self.inside.rows.items c.args.row.now c.in-Some.place.now (sym (c.self.invariant.placed c.args.row.now) ∙ sym c.in-Some.ensures.value) in
    omega (arith, row.below, c.self.invariant.each)

pub returns-in-Some : goal.returns-in-Some
returns-in-Some c rules nodes held =
    let inside = c.self.inside in
    let state : State = record { shapes = inside.shapes.items; count = inside.count; inserted = inside.rows.items; dropped = inside.dropped.items; voids = inside.voids.items } in
    causes_now rules nodes state (subst (λ (s : State). IsStateOf rules nodes s) (sym c.self.view_is) held) inside.places inside.causes.items inside.children inside.deleters inside.ends.items inside.groups c.self.invariant c.args.row.now c.in-Some.place.now c.index.result.now
    (sym (c.self.invariant.placed c.args.row.now) ∙ sym c.in-Some.ensures.value) c.index.ensures

pub returns-in-None : goal.returns-in-None
returns-in-None c rules nodes held =
    let none = unnamed_from_none c.self.inside.rows.items c.args.row.now (sym (c.self.invariant.placed c.args.row.now) ∙ sym c.in-None.ensures.value) in
    absurd (both_ways _ none (ap (λ (s : State). is_named (done_in s).inserted c.args.row.now) c.self.view_is ∙ c.requires))
