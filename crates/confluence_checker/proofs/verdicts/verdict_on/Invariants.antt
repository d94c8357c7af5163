use Rattle.std.proofs.Common.{◌≡◌, drop}
use Rattle.table_model.specs.Verdicts.{verdict_after, verdict_on}
use Rattle.table_model.specs.Visible.{rules_with}
use Rattle.confluence_checker.proofs.verdicts.verdict_on.Given as goal

abbrev pub invariant-loop-number : goal.invariant-loop-number
invariant-loop-number g l = verdict_after (rules_with g.L.Relation.answer l.schema.tables) l.past l.rows.items l.node l.number l.did (drop l.number l.ops) ≡ verdict_on (rules_with g.L.Relation.answer l.schema.tables) l.past l.node
