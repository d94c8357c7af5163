use Rattle.table_model.specs.Visible.{rules_with}
use Rattle.confluence_checker.proofs.Newest.{judged_start}
use Rattle.confluence_checker.proofs.judging.judged.Goals as goal

pub loop-node-init : goal.loop-node-init
loop-node-init g c = judged_start (rules_with g.L.Relation.answer c.args.schema.now.tables) c.in_ok-js.js.items c.in_ok-js.ensures.items
