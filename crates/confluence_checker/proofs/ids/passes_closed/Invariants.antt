use Rattle.std.proofs.Common.{◌≡◌, take, reverse}
use Rattle.confluence_laws.specs.Confluence.{is_closed}
use Rattle.confluence_checker.proofs.ids.passes_closed.Given as goal

abbrev pub invariant-loop-older : goal.invariant-loop-older
invariant-loop-older l = l.closed ≡ is_closed (reverse (take l.older l.nodes))
