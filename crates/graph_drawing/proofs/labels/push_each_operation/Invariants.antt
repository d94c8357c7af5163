use Rattle.std.proofs.Common.{◌≡◌, ◌++◌, take}
use Rattle.std.specs.List.{flat_map}
use Rattle.graph_drawing.specs.Labels.{operation_line}
use Rattle.graph_drawing.proofs.labels.push_each_operation.Given as goal

-- the operations so far
abbrev pub invariant-loop-op : goal.invariant-loop-op
invariant-loop-op l = l.out.items ≡ l.fn.out.items ++ flat_map (operation_line l.form l.schema.tables) (take l.op-index l.ops)
