use Rattle.std.proofs.Common.{◌<◌, ◌-◌, length, drop, take, ap, sym, ◌∙◌, arith}
use Rattle.std.specs.Prelude.{slice_get}
use Rattle.tuple_state.specs.Kept.{deletes_at, pairs_of, place_of}
use Rattle.tuple_state.specs.State.{State, rules_of_state}
use Rattle.tuple_state.proofs.Dropping.{row_there}
use Rattle.tuple_state.proofs.Spans.{before, end_is, ends-length, few, names_of, rises, span}
use Rattle.tuple_state.proofs.tables.Tables.parents.Goals as goal

pub index-requires : goal.index-requires
index-requires c =
    let inside = c.self.inside in
    let state : State = record { shapes = inside.shapes.items; count = inside.count; inserted = inside.rows.items; dropped = inside.dropped.items; voids = inside.voids.items } in
    let same = ap (λ (s : State). length s.inserted) c.self.view_is in
    let long = ap length c.self.invariant.ended ∙ ends-length (rules_of_state state) 0 inside.rows.items in
    omega (arith, same, long, c.requires)

pub part-requires-clause-start : goal.part-requires-clause-start
part-requires-clause-start c =
    let inside = c.self.inside in
    let state : State = record { shapes = inside.shapes.items; count = inside.count; inserted = inside.rows.items; dropped = inside.dropped.items; voids = inside.voids.items } in
    let same = ap (λ (s : State). length s.inserted) c.self.view_is in
    let below : c.args.place < length inside.rows.items = omega (arith, same, c.requires) in
    let row = row_there inside.rows.items c.args.place below in
    let from = c.links_before.ensures ∙ sym (ap (λ (s : State). before (rules_of_state s) s.inserted c.args.place) c.self.view_is) in
    let to = end_is (rules_of_state state) inside.rows.items inside.ends.items c.args.place c.index.result.now c.index.result.now c.self.invariant.ended below c.index.ensures in
    let up = rises (rules_of_state state) (place_of inside.rows.items) inside.rows.items inside.children.links c.self.invariant.named c.args.place row.0 row.1 in
    omega (arith, from, to, up)

pub part-requires-clause-end : goal.part-requires-clause-end
part-requires-clause-end c =
    let inside = c.self.inside in
    let state : State = record { shapes = inside.shapes.items; count = inside.count; inserted = inside.rows.items; dropped = inside.dropped.items; voids = inside.voids.items } in
    let same = ap (λ (s : State). length s.inserted) c.self.view_is in
    let below : c.args.place < length inside.rows.items = omega (arith, same, c.requires) in
    let row = row_there inside.rows.items c.args.place below in
    let to = end_is (rules_of_state state) inside.rows.items inside.ends.items c.args.place c.index.result.now c.index.result.now c.self.invariant.ended below c.index.ensures in
    let most = few (rules_of_state state) (place_of inside.rows.items) inside.rows.items inside.children.links c.self.invariant.named c.args.place row.0 row.1 in
    omega (arith, to, most)

pub returns : goal.returns
returns c it at =
    let inside = c.self.inside in
    let state : State = record { shapes = inside.shapes.items; count = inside.count; inserted = inside.rows.items; dropped = inside.dropped.items; voids = inside.voids.items } in
    let here = ap (λ (s : State). slice_get s.inserted c.args.place) c.self.view_is ∙ at in
    let same = ap (λ (s : State). length s.inserted) c.self.view_is in
    let below : c.args.place < length inside.rows.items = omega (arith, same, c.requires) in
    let from = c.links_before.ensures ∙ sym (ap (λ (s : State). before (rules_of_state s) s.inserted c.args.place) c.self.view_is) in
    let to = end_is (rules_of_state state) inside.rows.items inside.ends.items c.args.place c.index.result.now c.index.result.now c.self.invariant.ended below c.index.ensures in
    ap pairs_of c.part.ensures ∙ (λ i. pairs_of (take (to i - from i) (drop (from i) inside.children.links)))
    ∙ span (rules_of_state state) (place_of inside.rows.items) inside.rows.items inside.children.links c.self.invariant.named c.args.place it here
    ∙ ap (λ (s : State). deletes_at (place_of s.inserted) (names_of (rules_of_state s) c.args.place it)) c.self.view_is
