use Rattle.std.proofs.Common.{List, [], ◌∷◌, ◌++◌, ℕ, ◌∙◌, ap, append-nil, refl, sym, subst, true, false}
use Rattle.std.specs.BTreeMap.{get}
use Rattle.update_model.specs.declared.row_name.RowName.{RowName}
use Rattle.table_model.specs.declared.shown_row.ShownRow.{ShownRow}
use Rattle.table_model.specs.Tables.{name_cmp}
use Rattle.tuple_state.specs.State.{rules_of_state}
use Rattle.tuple_state.proofs.Lookups.{row_found}
use Rattle.tuple_state.proofs.Marks.{fresh_layered}
use Rattle.tuple_state.proofs.Ordered.{AreInOrder, ArePlaced, in_order, in_order_last, in_order_next, lines_of, placed_each}
use Rattle.tuple_state.proofs.showing.listed_rows.Goals as goal

pub loop-place-init : goal.loop-place-init
loop-place-init c =
    let state = c.args.tables.now in
    let es = c.places_by_name-places.result.now.entries in
    let is = c.into_iter-place-iterator.ensures.into_iter_gives ∙ c.iter-place-items.ensures.rest in
    let each = placed_each state.inserted (get name_cmp c.places_by_name-places.result.now) c.places_by_name-places.ensures.placed es c.iter-place-items.ensures.found in
    let whole =
    in_order state c.args.table (fresh_layered (rules_of_state state) [] state.inserted c.places_by_name-places.ensures.layered) es c.iter-place-items.ensures.ordered
    c.places_by_name-places.ensures.placed each in (
      subst (λ (l : List (RowName × ℕ)). AreInOrder state c.args.table (c.new-lines.result.items ++ lines_of state c.args.table l)) (sym is)
          (subst (λ (l : List ShownRow). AreInOrder state c.args.table (l ++ lines_of state c.args.table es)) (sym c.new-lines.ensures.items) whole),
      subst (ArePlaced state.inserted) (sym is) each,
    )

pub is_listed-requires : goal.is_listed-requires
is_listed-requires c =
    (row_found c.args.tables.now.inserted c.in-Some.field-0-0.now c.in-Some.place.now (subst (ArePlaced c.args.tables.now.inserted) c.in-Some.ensures.steps c.loop-place.invariant.1).0).below

pub row-requires : goal.row-requires
row-requires c =
    (row_found c.args.tables.now.inserted c.in-Some.field-0-0.now c.in-Some.place.now (subst (ArePlaced c.args.tables.now.inserted) c.in-Some.ensures.steps c.loop-place.invariant.1).0).below

pub loop-place-preserved-in_ok-push : goal.loop-place-preserved-in_ok-push
loop-place-preserved-in_ok-push c = (
  in_order_next c.args.tables.now c.args.table c.loop-place.lines.items c.push.new.self.items (c.in_ok-shown_row.field-0 ∷ []) c.loop-place.place-iterator c.next.new.self
      (c.in-Some.field-0-0.now, c.in-Some.place.now) c.row.result.now true c.in-Some.ensures.steps c.row.ensures.row
      (sym c.if-is_listed.true ∙ c.is_listed.ensures c.row.result.now c.row.ensures.row) (ap (λ (line : ShownRow). line ∷ []) c.in_ok-shown_row.ensures) c.in_ok-push.ensures.items
      c.loop-place.invariant.0,
  (subst (ArePlaced c.args.tables.now.inserted) c.in-Some.ensures.steps c.loop-place.invariant.1).1,
)

pub loop-place-preserved : goal.loop-place-preserved
loop-place-preserved c =
    let placed = subst (ArePlaced c.args.tables.now.inserted) c.in-Some.ensures.steps c.loop-place.invariant.1 in
    let row = row_found c.args.tables.now.inserted c.in-Some.field-0-0.now c.in-Some.place.now placed.0 in (
      in_order_next c.args.tables.now c.args.table c.loop-place.lines.items c.loop-place.lines.items [] c.loop-place.place-iterator c.next.new.self
          (c.in-Some.field-0-0.now, c.in-Some.place.now) row.it false c.in-Some.ensures.steps row.at (sym c.if-is_listed.false ∙ c.is_listed.ensures row.it row.at) refl
          (sym (append-nil c.loop-place.lines.items)) c.loop-place.invariant.0,
      placed.1,
    )

pub returns-clause-rising : goal.returns-clause-rising
returns-clause-rising c =
    (in_order_last c.args.tables.now c.args.table c.loop-place.lines.items c.loop-place.place-iterator c.in-None.ensures.steps.0 c.loop-place.invariant.0).rising

pub returns-clause-exact : goal.returns-clause-exact
returns-clause-exact c =
    (in_order_last c.args.tables.now c.args.table c.loop-place.lines.items c.loop-place.place-iterator c.in-None.ensures.steps.0 c.loop-place.invariant.0).exact
