use Rattle.std.proofs.Common.{map, filter_map, slice_get, take}
use Rattle.update_codec.specs.Parts.{entry_of}
use Rattle.sync_session.proofs.Rounds.{SoFar}
use Rattle.sync_session.proofs.carrying.hand_updates.Given as goal

abbrev pub invariant-updates : goal.invariant-updates
invariant-updates g l =
    (g.Y.Holder.keeps l.initial.to l.to) × (g.Y.Holder.is_whole l.initial.to → g.Y.Holder.is_whole l.to) × SoFar (g.Y.Holder.limits l.initial.to) (g.Y.Holder.rule l.initial.to) l.initial.session (g.Y.Holder.members l.initial.to) (g.X.Holder.members l.from) (g.Y.Counted.faults l.initial.to)
    (filter_map (slice_get (map entry_of (g.X.Holder.members l.from))) (take l.position-index l.positions)) l.session (g.Y.Holder.members l.to) (g.Y.Holder.limits l.to) (g.Y.Holder.rule l.to) (g.Y.Counted.faults l.to)
