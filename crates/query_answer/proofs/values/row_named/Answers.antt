use Rattle.std.proofs.Common.{◌≡◌, ◌∙◌, Some, ap, get_or, sym, rules}
use Rattle.std.specs.declared.cmp.Ordering.TheVariants.{Equal}
use Rattle.std.proofs.lemmas.Fn.{always_returns_same}
use Rattle.table_model.specs.declared.shown_row.ShownRow.{ShownRow}
use Rattle.table_model.specs.Tables.{name_cmp}
use Rattle.query_answer.proofs.Looking.{found_between, found_there, rises}
use Rattle.query_answer.proofs.values.row_named.Goals as goal

pub returns-in-Ok : goal.returns-in-Ok
returns-in-Ok c = λ rising.
    let rows = c.args.rows.now in
    let name = c.args.name.now in
    let it = c.index-rows-place.result in
    let there : name_cmp (get_or rows c.in-Ok.place it).name name ≡ Equal =
    c.in-Ok.ensures.position (λ row. name_cmp row.name name) (always_returns_same _ (λ a r. r ≡ name_cmp a.0.now.name name) _ (λ a r f q. search rules)) it in
    ap (λ (row : ShownRow). Some row) c.index-rows-place.is ∙ sym (found_there rows name c.in-Ok.place it (rises rows rising) c.in-Ok.ensures.bound there)

pub returns-in-Err : goal.returns-in-Err
returns-in-Err c = λ rising.
    let rows = c.args.rows.now in
    let name = c.args.name.now in
    sym (found_between rows name c.in-Err.field-0 (rises rows rising)
    (c.in-Err.ensures.position (λ row. name_cmp row.name name) (always_returns_same _ (λ a r. r ≡ name_cmp a.0.now.name name) _ (λ a r f q. search rules))))
