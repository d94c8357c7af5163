use Rattle.std.proofs.Common.{◌∙◌, ap, List, filter, map}
use Rattle.update_model.specs.declared.row_name.RowName.{RowName}
use Rattle.table_model.specs.Visible.{TableRow}
use Rattle.confluence_checker.specs.Forms.{is_among}
use Rattle.confluence_checker.specs.Seeing.{shown_row_by}
use Rattle.confluence_checker.proofs.Sight.{shown_seen}
use Rattle.confluence_checker.proofs.visibility.shown_rows.Goals as goal

pub returns : goal.returns
returns c =
    let seen = c.in_ok-seen.seen.items in
    shown_seen c.args.schema.now.tables c.args.did.now seen c.in_ok-visible.visible.items c.in_ok-shown.shown.items c.in_ok-seen.ensures
    (c.in_ok-visible.ensures ∙ ap (λ (names : List RowName). filter (λ row. is_among names row.name) c.inserted.result.now) c.as_slice.ensures.value ∙ ap (λ (l : List TableRow). filter (λ row. is_among seen row.name) l) c.inserted.ensures)
    (c.in_ok-shown.ensures ∙ ap (λ (names : List RowName). map (shown_row_by c.args.schema.now.tables names) c.as_slice-2.result.now) c.as_slice-3.ensures.value
    ∙ ap (map (shown_row_by c.args.schema.now.tables seen)) c.as_slice-2.ensures.value)
