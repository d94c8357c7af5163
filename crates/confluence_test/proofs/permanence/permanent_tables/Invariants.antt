use Rattle.confluence_test.proofs.Permanents.{SaysUpTo}
use Rattle.confluence_test.proofs.permanence.permanent_tables.Given as goal

abbrev pub invariant-loop-number : goal.invariant-loop-number
invariant-loop-number l = SaysUpTo l.schema.tables l.permanence.items l.number
