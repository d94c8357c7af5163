use Rattle.std.proofs.Common.{◌≡◌, ℕ, List, [], ap, sym, subst, ◌∙◌}
use Rattle.std.specs.BTreeMap.{get}
use Rattle.update_model.specs.declared.row_name.RowName.{RowName}
use Rattle.table_model.specs.Tables.{name_cmp}
use Rattle.tuple_state.specs.Grouped.{AreGroupsOf}
use Rattle.tuple_state.specs.Kept.{IsKept, place_of}
use Rattle.tuple_state.specs.State.{State}
use Rattle.tuple_state.proofs.Gathering.{groups_at}
use Rattle.tuple_state.proofs.Shortening.{kept_places}
use Rattle.tuple_state.specs.declared.inserted.Inserted.{Inserted}
use Rattle.tuple_state.specs.Parents.{AreFresh}
use Rattle.tuple_state.proofs.Marks.{fresh_layered}
use Rattle.tuple_state.proofs.tables.Tables.copy.Goals as goal

pub enter-requires-clause-groups : goal.enter-requires-clause-groups
enter-requires-clause-groups c = c.new-groups.ensures c.as_slice-forms.result.now

pub enter-requires-clause-fresh : goal.enter-requires-clause-fresh
enter-requires-clause-fresh c =
    let rows = c.as_slice-3.ensures.value ∙ c.in_ok-rows.ensures ∙ c.as_slice-2.ensures.value in
    subst (λ (l : List Inserted). AreFresh [] l) (sym rows) (fresh_layered _ [] c.self.inside.rows.items c.self.invariant.layered)

pub invariant_of-result : goal.invariant_of-result
invariant_of-result c =
    let inside = c.self.inside in
    let state : State = record { shapes = inside.shapes.items; count = inside.count; inserted = inside.rows.items; dropped = inside.dropped.items; voids = inside.voids.items } in
    let shapes = c.in_ok-shapes.ensures ∙ c.as_slice.ensures.value in
    let rows = c.in_ok-rows.ensures ∙ c.as_slice-2.ensures.value in
    let causes = c.in_ok-from_slice.ensures.items ∙ c.as_slice-4.ensures.value in
    let dropped = c.in_ok-from_slice-2.ensures.items ∙ c.as_slice-5.ensures.value in
    let voids = c.in_ok-from_slice-3.ensures.items ∙ c.as_slice-6.ensures.value in
    let whole : ◌≡◌ {A = State} (record { shapes = c.in_ok-shapes.shapes.items; count = inside.count; inserted = c.in_ok-rows.rows.items; dropped = c.in_ok-from_slice-2.field-0.items; voids = c.in_ok-from_slice-3.field-0.items }) state =
    λ i. record { shapes = shapes i; count = inside.count; inserted = rows i; dropped = dropped i; voids = voids i } in
    let placed : (name : RowName) → get name_cmp c.enter.new.places name ≡ place_of inside.rows.items name =
    λ name. c.in_ok-enter.ensures.ok name ∙ ap (λ (l : List Inserted). place_of l name) (c.as_slice-3.ensures.value ∙ rows) in
    let places = c.enter.new.places in
    let children = c.in_ok-copy.field-0 in
    let deleters = c.in_ok-copy-2.field-0 in
    let ends = c.in_ok-from_slice-4.field-0.items in
    let groups = c.enter.new.groups in
    let grouped : AreGroupsOf inside.shapes.items inside.rows.items groups =
    groups_at (c.as_slice-forms.ensures.value ∙ shapes) (c.as_slice-3.ensures.value ∙ rows) c.in_ok-enter.ensures.groups in
    subst (λ (s : State). IsKept s places c.in_ok-from_slice.field-0.items children deleters ends groups) (sym whole)
    (subst (λ (l : List ℕ). IsKept state places l children deleters ends groups) (sym causes)
    (subst (λ (l : List ℕ). IsKept state places inside.causes.items children deleters l groups) (sym (c.in_ok-from_slice-4.ensures.items ∙ c.as_slice-7.ensures.value))
    (kept_places places groups c.self.invariant grouped placed c.in_ok-copy.ensures c.in_ok-copy-2.ensures)))
