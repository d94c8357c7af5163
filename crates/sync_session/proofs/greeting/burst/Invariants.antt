use Rattle.std.proofs.Common.{◌<◌, All, length}
use Rattle.sync_session.proofs.BurstSteps.{Sends}
use Rattle.sync_session.proofs.greeting.burst.Given as goal

abbrev pub invariant-loop-position : goal.invariant-loop-position
invariant-loop-position g l = Sends (g.H.Holder.members l.holder) l.below l.filter-inside.bytes.items l.position-items l.position-index l.positions.items l.unknown × All (λ p. p < length (g.H.Holder.members l.holder)) l.positions.items
