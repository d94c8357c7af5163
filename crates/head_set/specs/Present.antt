-- The heads of the moment.
use Rattle.std.specs.Prelude.{[], ◌-◌, List, length, slice_index_or}
use Rattle.update_model.specs.declared.update_id.UpdateId.{UpdateId}

-- Of the heads after each add, those after the last one; before the first add there are none.
abbrev pub present : List (List UpdateId) → List UpdateId
present states = slice_index_or states (length states - 1) []
