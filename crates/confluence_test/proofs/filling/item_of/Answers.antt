use Rattle.std.proofs.Common.{◌∙◌}
use Rattle.table_model.specs.Visible.{bare_rules}
use Rattle.confluence_test.proofs.Fills.{plain_item}
use Rattle.confluence_test.proofs.filling.item_of.Goals as goal

pub returns : goal.returns
returns c = c.in_ok-row.ensures ∙ plain_item (bare_rules c.args.schema.now.tables) c.args.chain.now c.args.table 0
