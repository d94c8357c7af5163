use Rattle.std.proofs.Common.{◌≡◌, List, reverse, ap, sym, subst, ◌∙◌}
use Rattle.table_model.specs.declared.void_line.VoidLine.{VoidLine}
use Rattle.table_model.specs.Invariants.{shown_in}
use Rattle.table_model.specs.Tables.{AreTablesOf, HasDistinctRows, void_lines}
use Rattle.table_model.specs.Verdicts.{Judged, effects, judged}
use Rattle.table_model.specs.Visible.{TableRow, Effects, shown_rows, rules_with}
use Rattle.confluence_checker.specs.Forms.{newest_first}
use Rattle.table_model.proofs.Rising.{arrived_distinct, lines_distinct, shown_distinct}
use Rattle.confluence_checker.specs.declared.judged_node.JudgedNode.{JudgedNode}
use Rattle.confluence_checker.proofs.Listing.{tables_are}
use Rattle.confluence_checker.proofs.tables.tables_of.Goals as goal

pub lists_of-requires : goal.lists_of-requires
lists_of-requires g c =
    let r = rules_with g.L.Relation.answer c.args.schema.now.tables in
    let nodes = reverse c.args.nodes.now in
    let is : c.as_slice-2.result.now ≡ shown_in r nodes =
    c.as_slice-2.ensures.value ∙ c.in_ok-rows.ensures g.L.Relation.answer
    ∙ ap (λ (did : Effects). shown_rows r did) (c.in_ok-did.ensures ∙ ap (λ (js : List JudgedNode). effects (newest_first js)) c.as_slice.ensures.value ∙ ap (λ (js : List Judged). effects js) c.in_ok-js.ensures) in
    subst (λ (rows : List TableRow). HasDistinctRows rows) (sym is) (shown_distinct r nodes c.requires)

pub returns : goal.returns
returns g c =
    let r = rules_with g.L.Relation.answer c.args.schema.now.tables in
    let nodes = reverse c.args.nodes.now in
    let is : c.as_slice-2.result.now ≡ shown_in r nodes =
    c.as_slice-2.ensures.value ∙ c.in_ok-rows.ensures g.L.Relation.answer
    ∙ ap (λ (did : Effects). shown_rows r did) (c.in_ok-did.ensures ∙ ap (λ (js : List JudgedNode). effects (newest_first js)) c.as_slice.ensures.value ∙ ap (λ (js : List Judged). effects js) c.in_ok-js.ensures) in
    let lines = c.in_ok-lines.lines.items in
    let arrived : reverse lines ≡ void_lines (judged r nodes) =
    c.in_ok-lines.ensures ∙ ap (λ (js : List JudgedNode). void_lines (newest_first js)) c.as_slice-3.ensures.value ∙ ap (λ (js : List Judged). void_lines js) c.in_ok-js.ensures in
    subst (λ (l : List VoidLine). AreTablesOf r nodes c.in_ok-tables.tables l) (sym c.from_vec-voids.ensures)
    (tables_are r nodes c.in_ok-tables.tables lines c.sort_lines.result.items c.as_slice-2.result.now is c.in_ok-tables.ensures arrived
    (c.sort_lines.ensures.rising (arrived_distinct lines (void_lines (judged r nodes)) arrived (lines_distinct r nodes c.requires))) c.sort_lines.ensures.exact)
