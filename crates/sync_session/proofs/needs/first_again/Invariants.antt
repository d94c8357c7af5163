use Rattle.std.proofs.Common.{◌≡◌, None, take, find}
use Rattle.std.specs.BTreeSet.{keys}
use Rattle.update_model.specs.Graph.{has}
use Rattle.sync_session.proofs.needs.first_again.Given as goal

abbrev pub invariant-loop-id : goal.invariant-loop-id
invariant-loop-id l = find (has (keys l.set)) (take l.id-index l.ids) ≡ None
