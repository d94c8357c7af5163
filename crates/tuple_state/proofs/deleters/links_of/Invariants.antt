use Rattle.std.proofs.Common.{◌≡◌, take}
use Rattle.std.specs.BTreeMap.{get}
use Rattle.table_model.specs.Tables.{name_cmp}
use Rattle.tuple_state.specs.Kept.{deletes_at, pairs_of}
use Rattle.tuple_state.proofs.deleters.links_of.Given as goal

-- the names so far are found
abbrev pub invariant-loop-drop : goal.invariant-loop-drop
invariant-loop-drop l = pairs_of l.links.items ≡ deletes_at (get name_cmp l.places) (take l.drop-index l.dropped)
