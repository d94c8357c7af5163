use Rattle.confluence_checker.specs.Sorting.{AreLists}
use Rattle.confluence_checker.proofs.tables.lists_of.Given as goal

abbrev pub invariant-loop-number : goal.invariant-loop-number
invariant-loop-number l = AreLists l.number l.rows l.lists.items
