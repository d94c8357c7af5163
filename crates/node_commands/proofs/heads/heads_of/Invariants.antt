use Rattle.std.proofs.Common.{take, map}
use Rattle.head_set.specs.Grown.{AreHeadsOfEach}
use Rattle.node_commands.proofs.heads.heads_of.Given as goal

abbrev pub invariant-loop-position : goal.invariant-loop-position
invariant-loop-position g l = AreHeadsOfEach (take l.position (map g.M.Member.entry l.graph)) l.heads
