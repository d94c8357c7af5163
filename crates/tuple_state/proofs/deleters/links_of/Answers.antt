use Rattle.std.proofs.Common.{[], List, ap, sym, ◌∙◌}
use Rattle.std.specs.BTreeMap.{get}
use Rattle.std.specs.Prelude.{is_some}
use Rattle.table_model.specs.Tables.{name_cmp}
use Rattle.tuple_state.specs.Kept.{pairs_of}
use Rattle.tuple_state.specs.declared.dropped.Dropped.{Dropped}
use Rattle.tuple_state.specs.declared.links.Link.{Link}
use Rattle.tuple_state.proofs.Deleting.{holds_at, links_step, not_none}
use Rattle.tuple_state.proofs.deleters.links_of.Goals as goal
use Rattle.tuple_state.proofs.deleters.links_of.Goals.{in-Some+in_ok-push, in_default}

pub loop-drop-preserved : goal.loop-drop-preserved
loop-drop-preserved c =
    let place = get name_cmp c.args.places.now in
    let nobody : Dropped = record { position = 0; name = record { update = record { 0 = [] }; index = 0 } } in
    let some = holds_at (λ (drop : Dropped). is_some (place drop.name)) c.args.dropped.now c.loop-drop.drop-index nobody c.loop-drop-test.true c.requires in
    elim c.match-get.branch [
      | in-Some+in_ok-push w ↦
          ap (λ v. pairs_of v.items) w.links-is ∙ ap (λ (l : List Link). pairs_of l) w.in_ok-push.ensures.items
          ∙ links_step place c.args.dropped.now c.loop-drop.drop-index nobody c.loop-drop.links.items w.in-Some.place.now c.loop-drop-test.true c.loop-drop.invariant (sym w.in-Some.ensures.value)
      | in_default w ↦ absurd (not_none _ some (sym w.in_default.ensures.value))
    ]
