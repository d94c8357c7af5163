use Rattle.std.proofs.Common.{List, ap, ◌∙◌}
use Rattle.schema.specs.declared.column.Column.{Column}
use Rattle.schema.specs.declared.rules.MatchRule.{MatchRule}
use Rattle.schema.specs.declared.rules.UniqueRule.{UniqueRule}
use Rattle.table_model.specs.Invariants.{each_from, unique_declared, at_most_declared, reference_declared, check_declared, match_declared}
use Rattle.confluence_checker.specs.Forms.{found_among}
use Rattle.table_model.specs.Visible.{rules_with}
use Rattle.confluence_checker.proofs.Goings.{found_table}
use Rattle.confluence_checker.proofs.searching.in_table.Goals as goal

pub returns : goal.returns
returns g c =
    let r = rules_with g.L.Relation.answer c.args.search.now.checker.schema.now.tables in
    let rows = c.args.search.now.rows.now in
    let which = c.args.search.now.which.now in
    let number = c.args.number in
    let table = c.args.table.now in
    found_table r rows which (each_from (unique_declared table.kept number) 0 table.uniques) (at_most_declared number table) (each_from (reference_declared number) 0 table.columns) (each_from (check_declared number) 0 table.checks)
    (each_from (match_declared number) 0 table.matches) c.args.before c.among_uniques-uniques.result c.among_at_most-most.result c.among_references-columns.result c.in_ok-checks.checks c.among_matches-matches.result
    (c.among_uniques-uniques.ensures r ∙ ap (λ (l : List UniqueRule). found_among r rows which (each_from (unique_declared table.kept number) 0 l) c.args.before) c.as_slice-lines.ensures)
    (c.among_at_most-most.ensures r)
    (c.among_references-columns.ensures r ∙ ap (λ (l : List Column). found_among r rows which (each_from (reference_declared number) 0 l) c.among_at_most-most.result) c.as_slice.ensures)
    c.in_ok-checks.ensures
    (c.among_matches-matches.ensures r ∙ ap (λ (l : List MatchRule). found_among r rows which (each_from (match_declared number) 0 l) c.in_ok-checks.checks) c.as_slice-2.ensures)
