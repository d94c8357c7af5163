use Rattle.std.proofs.Common.{◌≡◌, ◌<◌, All, length, map, take, filter_map, slice_get}
use Rattle.session_rules.specs.Steps.{answers}
use Rattle.update_codec.specs.Parts.{entry_of}
use Rattle.sync_session.proofs.lookup.positions_of.Given as goal

abbrev pub invariant-loop-id : goal.invariant-loop-id
invariant-loop-id g l =
    (filter_map (slice_get (map entry_of (g.H.Holder.members l.holder))) l.positions.items ≡ answers (take l.below (map entry_of (g.H.Holder.members l.holder))) (take l.id-index l.ids))
    × All (λ p. p < length (g.H.Holder.members l.holder)) l.positions.items
