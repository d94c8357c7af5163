use Rattle.std.proofs.Common.{ap, ◌∙◌}
use Rattle.std.specs.Prelude.{slice_get}
use Rattle.table_model.specs.Visible.{is_visible}
use Rattle.tuple_state.specs.State.{State, done_in, rules_of_state}
use Rattle.tuple_state.proofs.Meaning.{mark_read}
use Rattle.tuple_state.proofs.tables.Tables.is_marked.Goals as goal

pub returns : goal.returns
returns c it at =
    let inside = c.self.inside in
    let state : State = record { shapes = inside.shapes.items; count = inside.count; inserted = inside.rows.items; dropped = inside.dropped.items; voids = inside.voids.items } in
    mark_read state inside.places inside.causes.items inside.children inside.deleters inside.ends.items inside.groups c.self.invariant c.index.result.now c.args.place it (ap (λ (s : State). slice_get s.inserted c.args.place) c.self.view_is ∙ at) c.index.ensures
    ∙ ap (λ (s : State). is_visible (rules_of_state s) (done_in s) it.name) c.self.view_is
