use Rattle.std.proofs.Common.{◌≡◌, true, map, take}
use Rattle.std.specs.List.{list_all}
use Rattle.update_codec.specs.Parts.{entry_of}
use Rattle.update_model.specs.Graph.{holds}
use Rattle.sync_session.proofs.lookup.has_all.Given as goal

abbrev pub invariant-loop-id : goal.invariant-loop-id
invariant-loop-id g l = list_all (holds (map entry_of (g.H.Holder.members l.holder))) (take l.id-index l.ids) ≡ true
