use Rattle.std.proofs.Common.{◌≡◌, false, take}
use Rattle.update_model.specs.Graph.{has}
use Rattle.sync_session.proofs.lookup.is_among.Given as goal

abbrev pub invariant-loop-one : goal.invariant-loop-one
invariant-loop-one l = has (take l.one-index l.ids) l.id ≡ false
