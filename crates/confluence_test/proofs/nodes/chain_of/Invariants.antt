use Rattle.std.proofs.Common.{◌≡◌, reverse, take}
use Rattle.confluence_laws.specs.Examples.{chain}
use Rattle.confluence_test.proofs.nodes.chain_of.Given as goal

abbrev pub invariant-loop-older : goal.invariant-loop-older
invariant-loop-older l = l.nodes.items ≡ reverse (chain (reverse (take l.older l.rows)))
