use Rattle.std.proofs.Common.{◌≡◌, None, map, take, find, not}
use Rattle.update_codec.specs.Parts.{entry_of}
use Rattle.update_model.specs.Graph.{holds}
use Rattle.sync_session.proofs.lookup.first_unknown.Given as goal

abbrev pub invariant-loop-id : goal.invariant-loop-id
invariant-loop-id g l = find (λ id. not (holds (take l.below (map entry_of (g.H.Holder.members l.holder))) id)) (take l.id-index l.ids) ≡ None
