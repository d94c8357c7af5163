use Rattle.std.proofs.Common.{◌≡◌, ◌++◌, drop}
use Rattle.confluence_laws.specs.Examples.{filled_but}
use Rattle.confluence_test.proofs.filling.filled_but.Given as goal

abbrev pub invariant-loop-number : goal.invariant-loop-number
invariant-loop-number l = l.values.items ++ filled_but l.chain l.skip l.name l.number (drop l.number l.columns) (drop l.number l.sample) ≡ filled_but l.chain l.skip l.name 0 l.columns l.sample
