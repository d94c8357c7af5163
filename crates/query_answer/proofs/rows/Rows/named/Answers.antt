use Rattle.std.proofs.Common.{◌∙◌, Bool, cond, List, [], ap, subst, sym}
use Rattle.table_model.specs.declared.shown_row.ShownRow.{ShownRow}
use Rattle.tuple_state.specs.Arrived.{arrived}
use Rattle.query_answer.specs.declared.rows.Rows.{Rows}
use Rattle.query_answer.specs.declared.rows.Rows.TheVariants as rows
use Rattle.query_answer.specs.Rows.{AreListsOf}
use Rattle.query_answer.specs.Values.{IsRising, row_named}
use Rattle.query_answer.proofs.Lending.{named_listed, within}
use Rattle.query_answer.proofs.rows.Rows.named.Goals as goal

pub returns-in-Listed : goal.returns-in-Listed
returns-in-Listed c = λ lists are.
    let name = c.args.name.now in
    let listed : AreListsOf (rows.Listed c.in-Listed.lists) lists = subst (λ (rs : Rows). AreListsOf rs lists) c.in-Listed.is are in
    let rising : IsRising c.rows_in.result.now = subst IsRising (sym c.rows_in.ensures) (listed.sound c.args.table) in
    c.listed.ensures ∙ c.row_named.ensures rising ∙ ap (λ (xs : List ShownRow). row_named xs name) c.rows_in.ensures
    ∙ named_listed (rows.Listed c.in-Listed.lists) lists listed c.args.table name

pub returns-then-table-count : goal.returns-then-table-count
returns-then-table-count c = λ lists are.
    let name = c.args.name.now in
    let table = c.args.table in
    let lent : AreListsOf (rows.Lent c.in-Lent.tables c.in-Lent.count) lists = subst (λ (rs : Rows). AreListsOf rs lists) c.in-Lent.is are in
    c.lent.ensures ∙ c.lend_named.ensures
    ∙ ap (λ (b : Bool). row_named (cond b (arrived c.in-Lent.tables.now table) []) name) (sym (within table c.in-Lent.count c.if-table-count.true))
    ∙ named_listed (rows.Lent c.in-Lent.tables c.in-Lent.count) lists lent table name
