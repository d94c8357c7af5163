use Rattle.std.proofs.Common.{length, ap, ◌∙◌, arith}
use Rattle.tuple_state.specs.State.{State, rules_of_state}
use Rattle.tuple_state.proofs.Spans.{before, begin_first, begin_later, ends-length}
use Rattle.tuple_state.proofs.tables.Tables.links_before.Goals as goal

pub index-requires : goal.index-requires
index-requires c =
    let inside = c.self.inside in
    let state : State = record { shapes = inside.shapes.items; count = inside.count; inserted = inside.rows.items; dropped = inside.dropped.items; voids = inside.voids.items } in
    let same = ap (λ (s : State). length s.inserted) c.self.view_is in
    let long = ap length c.self.invariant.ended ∙ ends-length (rules_of_state state) 0 inside.rows.items in
    omega (arith, same, long, c.requires, c.if-place-eq0.false)

pub returns-then-place-eq0 : goal.returns-then-place-eq0
returns-then-place-eq0 c = begin_first (rules_of_state c.args.self.now) c.args.self.now.inserted c.args.place c.if-place-eq0.true

pub returns-else-place-eq0 : goal.returns-else-place-eq0
returns-else-place-eq0 c =
    let inside = c.self.inside in
    let state : State = record { shapes = inside.shapes.items; count = inside.count; inserted = inside.rows.items; dropped = inside.dropped.items; voids = inside.voids.items } in
    let same = ap (λ (s : State). length s.inserted) c.self.view_is in
    begin_later (rules_of_state state) inside.rows.items inside.ends.items c.args.place c.index.result.now c.index.result.now c.self.invariant.ended (omega (arith, same, c.requires)) c.if-place-eq0.false c.index.ensures
    ∙ ap (λ (s : State). before (rules_of_state s) s.inserted c.args.place) c.self.view_is
