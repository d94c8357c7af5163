use Rattle.std.proofs.Common.{◌≡◌, false, take, map}
use Rattle.update_codec.specs.Parts.{entry_of}
use Rattle.update_model.specs.Graph.{names}
use Rattle.sync_session.proofs.pending.Pending.names.Given as goal

abbrev pub invariant-loop-update : goal.invariant-loop-update
invariant-loop-update l = names (map entry_of (take l.update-index l.update-items)) l.id ≡ false
