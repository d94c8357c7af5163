use Rattle.std.proofs.Common.{◌≡◌, take, reverse}
use Rattle.table_model.specs.Verdicts.{judged}
use Rattle.confluence_checker.specs.Forms.{newest_first}
use Rattle.table_model.specs.Visible.{rules_with}
use Rattle.confluence_checker.proofs.judging.judged.Given as goal

abbrev pub invariant-loop-node : goal.invariant-loop-node
invariant-loop-node g l = newest_first l.js.items ≡ judged (rules_with g.L.Relation.answer l.schema.tables) (reverse (take l.node-index l.nodes))
