use Rattle.std.proofs.Common.{◌≡◌, ◌++◌, take}
use Rattle.std.specs.List.{flat_map}
use Rattle.update_codec.specs.Spelling.{id}
use Rattle.update_codec.proofs.encoding.put_before_ops.Given as goal

-- the ids so far are written
abbrev pub invariant-loop-pred : goal.invariant-loop-pred
invariant-loop-pred l = l.out.items ≡ l.initial.out.items ++ flat_map id (take l.pred-index l.preds)
