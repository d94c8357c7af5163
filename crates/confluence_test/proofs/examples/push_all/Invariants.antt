use Rattle.std.proofs.Common.{◌≡◌, ◌++◌, reverse}
use Rattle.confluence_test.proofs.examples.push_all.Given as goal

abbrev pub invariant-loop-row : goal.invariant-loop-row
invariant-loop-row l = l.chain ≡ reverse l.yielded ++ l.fn.chain
