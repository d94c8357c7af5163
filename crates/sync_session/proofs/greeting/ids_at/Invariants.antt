use Rattle.std.proofs.Common.{◌≡◌, map, take}
use Rattle.update_codec.specs.Parts.{id_of}
use Rattle.update_check.specs.Holding.{at_positions}
use Rattle.sync_session.proofs.greeting.ids_at.Given as goal

abbrev pub invariant-loop-position : goal.invariant-loop-position
invariant-loop-position g l = l.ids.items ≡ map id_of (at_positions (g.H.Holder.members l.holder) (take l.position-index l.positions))
