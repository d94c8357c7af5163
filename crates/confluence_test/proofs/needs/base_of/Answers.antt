use Rattle.table_model.specs.Visible.{bare_rules}
use Rattle.confluence_test.proofs.Needing.{base_is}
use Rattle.confluence_test.proofs.needs.base_of.Goals as goal

pub returns-clause-needed : goal.returns-clause-needed
returns-clause-needed c = base_is (bare_rules c.args.schema.now.tables) c.args.table c.new-chain.result c.need_all_but.new.chain c.new-chain.ensures c.in_ok-need_all_but.ensures.needed
