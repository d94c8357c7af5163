use Rattle.std.proofs.Common.{◌≡◌, ◌∙◌, ◌+◌, List, ◌++◌, ap, arith, filter, subst, sym}
use Rattle.table_model.specs.declared.shown_row.ShownRow.{ShownRow}
use Rattle.query.specs.declared.item.Key.{Key}
use Rattle.query_answer.specs.Answers.{data_cmp, limited}
use Rattle.query_answer.specs.Fronts.{AreApart, Holds, asked_lines, first_lines}
use Rattle.query_answer.specs.InOrder.{in_order}
use Rattle.query_answer.specs.Rows.{row_at, rows_before, rows_of}
use Rattle.query_answer.specs.Values.{is_asked}
use Rattle.query_answer.proofs.Lending.{before_differ, rows_next, rows_start}
use Rattle.query_answer.proofs.Sorting.{asked_apart, asked_both}
use Rattle.query_answer.proofs.answering.lines_of.Goals as goal

pub loop-place-init : goal.loop-place-init
loop-place-init g c = λ lists are.
    let query = c.args.query.now in
    let asked = is_asked g.L.Relation.answer lists query.condition in
    subst (λ (rows : List ShownRow). Holds query.keys.items query.limit c.new-front.result (asked_lines lists query.keys.items asked rows)) (sym (rows_start c.args.rows query.table))
    (c.new-front.ensures query.keys.items)

pub loop-place-preserved : goal.loop-place-preserved
loop-place-preserved g c = λ lists are.
    let rows = c.args.rows in
    let query = c.args.query.now in
    let keys = query.keys.items in
    let asked = is_asked g.L.Relation.answer lists query.condition in
    let place = c.loop-place.place in
    let old = asked_lines lists keys asked (rows_before rows query.table place) in
    let here = asked_lines lists keys asked (row_at rows query.table place) in
    let new = asked_lines lists keys asked (rows_before rows query.table (place + 1)) in
    let more : new ≡ old ++ here = ap (asked_lines lists keys asked) (rows_next rows query.table place) ∙ asked_both lists keys asked (rows_before rows query.table place) (row_at rows query.table place) in
    let apart : AreApart keys new = asked_apart lists keys asked (rows_before rows query.table (place + 1)) (before_differ rows lists are query.table (place + 1)) in
    subst (Holds keys query.limit c.add_row.new.front) (sym more)
    (c.in_ok-add_row.ensures lists query.limit old are (subst (AreApart keys) more apart) (c.loop-place.invariant lists are))

pub returns : goal.returns
returns g c = λ lists are.
    let rows = c.args.rows in
    let query = c.args.query.now in
    let asked = is_asked g.L.Relation.answer lists query.condition in
    let place = c.loop-place.place in
    let same : place ≡ c.places-place-end.result = omega (arith, c.loop-place.auto.place-end, c.loop-place-test.false) in
    let whole : rows_before rows query.table place ≡ rows_of rows query.table = ap (rows_before rows query.table) same ∙ c.places-place-end.ensures in
    let keys : c.as_slice.result.now ≡ query.keys.items = c.as_slice.ensures.value in
    let held : Holds query.keys.items query.limit c.loop-place.front (asked_lines lists query.keys.items asked (rows_before rows query.table place)) = c.loop-place.invariant lists are in
    let apart = asked_apart lists query.keys.items asked (rows_before rows query.table place) (before_differ rows lists are query.table place) in
    let all = asked_lines lists query.keys.items asked (rows_before rows query.table place) in
    c.into_first.ensures query.limit all (subst (λ (ks : List Key). AreApart ks all) (sym keys) apart)
    (subst (λ (ks : List Key). Holds ks query.limit c.loop-place.front all) (sym keys) held)
    ∙ ap (λ (ks : List Key). limited query.limit (in_order (data_cmp ks) all)) keys
    ∙ ap (λ (xs : List ShownRow). first_lines lists query.keys.items query.limit (filter asked xs)) whole
