use Rattle.std.proofs.Common.{◌≡◌, false, take}
use Rattle.std.specs.BTreeSet.{keys}
use Rattle.std.specs.List.{list_any}
use Rattle.update_model.specs.Graph.{has}
use Rattle.sync_session.proofs.greeting.names_one.Given as goal

abbrev pub invariant-loop-id : goal.invariant-loop-id
invariant-loop-id l = list_any (has (keys l.set)) (take l.id-index l.ids) ≡ false
