use Rattle.std.proofs.Common.{List, ap, ◌∙◌, map, filter}
use Rattle.update_model.specs.declared.row_name.RowName.{RowName}
use Rattle.table_model.specs.Visible.{TableRow, shows, bare_rules}
use Rattle.confluence_checker.specs.Forms.{is_among}
use Rattle.confluence_checker.proofs.Sight.{sees_deeper, sees_nothing}
use Rattle.confluence_checker.proofs.visibility.visible_names.Goals as goal

pub loop-depth-init : goal.loop-depth-init
loop-depth-init c = sees_nothing c.args.schema.now.tables c.args.did.now c.new-seen.result.items c.new-seen.ensures.items

pub loop-depth-preserved : goal.loop-depth-preserved
loop-depth-preserved c =
    sees_deeper c.args.schema.now.tables c.args.did.now c.loop-depth._depth c.loop-depth.seen.items c.in_ok-seen.seen.items c.loop-depth.invariant
    (c.in_ok-seen.ensures
    ∙ ap (λ (l : List RowName). map (λ (row : TableRow). row.name) (filter (λ row. shows (bare_rules c.args.schema.now.tables) c.args.did.now (is_among l) row.name) c.args.did.now.inserted)) c.as_slice.ensures.value)
