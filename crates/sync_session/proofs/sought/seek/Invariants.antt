use Rattle.std.proofs.Common.{take}
use Rattle.std.specs.BTreeMap.{keys}
use Rattle.sync_session.specs.Wants.{SeeksToo}
use Rattle.sync_session.proofs.sought.seek.Given as goal

abbrev pub invariant-loop-id : goal.invariant-loop-id
invariant-loop-id l = SeeksToo (keys l.initial.sought) (take l.id-index l.ids) (keys l.sought)
