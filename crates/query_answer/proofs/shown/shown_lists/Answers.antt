use Rattle.std.proofs.Common.{List, ◌+◌, sym, subst}
use Rattle.table_model.specs.declared.shown_row.ShownRow.{ShownRow}
use Rattle.table_model.specs.Visible.{rules_with}
use Rattle.query_answer.specs.Answers.{AreShown}
use Rattle.query_answer.proofs.Showing.{shown_none, shown_more}
use Rattle.query_answer.proofs.shown.shown_lists.Goals as goal

pub loop-number-init : goal.loop-number-init
loop-number-init c = λ ask nodes is.
    let rules = rules_with ask c.args.schema.now.tables in
    let P : List (List ShownRow) → Type 0 = λ ls. AreShown rules nodes 0 ls in
    subst P (sym c.new-lists.ensures.items) (shown_none rules nodes)

pub loop-number-preserved : goal.loop-number-preserved
loop-number-preserved c = λ ask nodes is.
    let rules = rules_with ask c.args.schema.now.tables in
    let P : List (List ShownRow) → Type 0 = λ ls. AreShown rules nodes (c.loop-number.number + 1) ls in
    subst P (sym c.in_ok-push.ensures.items)
    (shown_more rules nodes c.loop-number.number c.loop-number.lists.items c.in_ok-rows.field-0 (c.loop-number.invariant ask nodes is) (c.in_ok-rows.ensures rules nodes is))
