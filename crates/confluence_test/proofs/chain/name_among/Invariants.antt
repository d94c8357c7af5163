use Rattle.std.proofs.Common.{◌≡◌, reverse, take}
use Rattle.confluence_laws.specs.Examples.{name_in}
use Rattle.confluence_test.proofs.chain.name_among.Given as goal

abbrev pub invariant-loop-older : goal.invariant-loop-older
invariant-loop-older l = l.name ≡ name_in (reverse (take l.older l.rows)) l.table
