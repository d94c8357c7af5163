use Rattle.std.proofs.Common.{◌≡◌, [], replicate}
use Rattle.world_rules.proofs.heads.no_heads.Given as goal

abbrev pub invariant-loop : goal.invariant-loop
invariant-loop l = l.none.items ≡ replicate l.counter []
