use Rattle.std.proofs.Common.{List, [], ◌∷◌, ◌++◌, subst, ap, ◌∙◌}
use Rattle.std.specs.List.Sorted.{IsPermutation}
use Rattle.table_model.specs.declared.shown_row.ShownRow.{ShownRow}
use Rattle.table_model.proofs.Rising.{listed_distinct}
use Rattle.confluence_checker.proofs.Listing.{lists_next}
use Rattle.confluence_checker.proofs.tables.lists_of.Goals as goal

pub loop-number-preserved : goal.loop-number-preserved
loop-number-preserved c =
    lists_next c.loop-number.number c.args.rows.now c.loop-number.lists.items c.push.new.self.items c.sort_rows.result.items c.loop-number.invariant
    (record {
      rising = c.sort_rows.ensures.rising (listed_distinct c.args.rows.now c.loop-number.number c.in_ok-shown.shown.items c.requires c.in_ok-shown.ensures);
      exact = subst (λ (l : List ShownRow). IsPermutation c.sort_rows.result.items l) c.in_ok-shown.ensures c.sort_rows.ensures.exact;
    })
    (c.in_ok-push.ensures.items ∙ ap (λ (s : List ShownRow). c.loop-number.lists.items ++ s ∷ []) c.from_vec.ensures)
