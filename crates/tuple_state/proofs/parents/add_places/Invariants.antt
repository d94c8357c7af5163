use Rattle.std.proofs.Common.{◌≡◌, ◌++◌, take}
use Rattle.std.specs.BTreeMap.{get}
use Rattle.update_model.specs.declared.row_name.RowName.{RowName}
use Rattle.table_model.specs.Tables.{name_cmp}
use Rattle.tuple_state.specs.Kept.{place_of}
use Rattle.tuple_state.proofs.parents.add_places.Given as goal

-- the places are those of the rows up to here
abbrev pub invariant-loop-number : goal.invariant-loop-number
invariant-loop-number l = (name : RowName) → get name_cmp l.places name ≡ place_of (l.rows ++ take l.number l.inserted) name
