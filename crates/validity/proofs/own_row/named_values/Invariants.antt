use Rattle.std.proofs.Common.{◌≡◌, ◌≤◌, length, map, take}
use Rattle.std.specs.Vec.{vec_capacity}
use Rattle.table_model.specs.Verdicts.{named}
use Rattle.validity.proofs.own_row.named_values.Given as goal

-- the values so far are named, and there is room for all
abbrev pub invariant-loop-value : goal.invariant-loop-value
invariant-loop-value l = record {
  named : l.list.items ≡ map (named l.id) (take l.value-index l.values);
  room : length l.values ≤ vec_capacity l.list;
}
