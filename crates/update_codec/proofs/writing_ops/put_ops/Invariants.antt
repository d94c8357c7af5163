use Rattle.std.proofs.Common.{◌≡◌, ◌++◌, take}
use Rattle.std.specs.List.{flat_map}
use Rattle.update_codec.specs.Spelling as spell
use Rattle.update_codec.proofs.writing_ops.put_ops.Given as goal

-- the operations so far are written
abbrev pub invariant-loop-op : goal.invariant-loop-op
invariant-loop-op l = l.out.items ≡ l.initial.out.items ++ flat_map spell.op (take l.op-index l.ops)
