use Rattle.std.proofs.Common.{◌≡◌}
use Rattle.confluence_laws.specs.Examples.{copies}
use Rattle.confluence_test.proofs.examples.push_copies.Given as goal

abbrev pub invariant-loop : goal.invariant-loop
invariant-loop l = l.chain ≡ copies l.counter l.row l.fn.chain
