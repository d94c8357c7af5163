use Rattle.std.proofs.Common.{◌≡◌, take}
use Rattle.update_model.proofs.op_list.OpList.copy.Given as goal

-- the operations so far are copied
abbrev pub invariant-loop-op : goal.invariant-loop-op
invariant-loop-op l = l.ops.items ≡ take l.op-index l.self
