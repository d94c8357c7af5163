use Rattle.std.proofs.Common.{◌≡◌, ◌+◌, ◌<◌, ◌≤◌, ◌++◌, ◌∙◌, List, length, ap, sym, subst, arith}
use Rattle.std.proofs.lemmas.List.{length-reverse}
use Rattle.confluence_laws.specs.Examples.{Step, path_from}
use Rattle.confluence_test.specs.Plans.{AreBelow}
use Rattle.table_model.specs.Visible.{bare_rules}
use Rattle.confluence_test.proofs.Listing.{each_back}
use Rattle.confluence_test.proofs.Paths.{path_few, path_below}
use Rattle.confluence_test.proofs.path.path_back.Goals as goal

pub returns-clause-below : goal.returns-clause-below
returns-clause-below c =
    let tables = c.args.schema.now.tables in
    let path = path_from (bare_rules tables) (c.args.table + 1) c.args.table in
    let is : c.follow.new.steps.items ≡ path = c.in_ok-follow.ensures.steps ∙ ap (λ (l : List Step). l ++ path) c.new-steps.ensures.items in
    subst (AreBelow (length tables)) (sym c.reverse.ensures.items)
    (each_back (λ (step : Step). step.table < length tables) c.follow.new.steps.items
    (subst (AreBelow (length tables)) (sym is) (path_below tables c.tables-tables.ensures.kept.tables (c.args.table + 1) c.args.table c.requires.table)))

pub returns-clause-few : goal.returns-clause-few
returns-clause-few c =
    let tables = c.args.schema.now.tables in
    let path = path_from (bare_rules tables) (c.args.table + 1) c.args.table in
    let is : c.follow.new.steps.items ≡ path = c.in_ok-follow.ensures.steps ∙ ap (λ (l : List Step). l ++ path) c.new-steps.ensures.items in
    let few : length path ≤ c.args.table + 1 = path_few (bare_rules tables) (c.args.table + 1) c.args.table in
    let n : length c.reverse.new.self.items ≡ length path = ap length c.reverse.ensures.items ∙ length-reverse c.follow.new.steps.items ∙ ap length is in
    let known = c.requires.table in
    let most = c.tables-tables.ensures.kept.few_tables in
    omega arith
