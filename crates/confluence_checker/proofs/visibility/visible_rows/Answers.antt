use Rattle.std.proofs.Common.{◌∙◌, ap, List, filter}
use Rattle.update_model.specs.declared.row_name.RowName.{RowName}
use Rattle.table_model.specs.Visible.{TableRow}
use Rattle.confluence_checker.specs.Forms.{is_among}
use Rattle.confluence_checker.proofs.Sight.{visible_seen}
use Rattle.confluence_checker.proofs.visibility.visible_rows.Goals as goal

pub returns : goal.returns
returns c =
    let seen = c.in_ok-seen.seen.items in
    visible_seen c.args.schema.now.tables c.args.did.now seen c.in_ok-rows.rows.items c.in_ok-seen.ensures
    (c.in_ok-rows.ensures ∙ ap (λ (names : List RowName). filter (λ row. is_among names row.name) c.inserted.result.now) c.as_slice.ensures.value ∙ ap (λ (l : List TableRow). filter (λ row. is_among seen row.name) l) c.inserted.ensures)
