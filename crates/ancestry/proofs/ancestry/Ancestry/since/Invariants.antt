use Rattle.std.proofs.Common.{◌≡◌}
use Rattle.ancestry.specs.Since.{since}
use Rattle.ancestry.proofs.ancestry.Ancestry.since.Given as goal

abbrev pub invariant-loop-p : goal.invariant-loop-p
invariant-loop-p l = l.positions.items ≡ since l.self l.old l.p
