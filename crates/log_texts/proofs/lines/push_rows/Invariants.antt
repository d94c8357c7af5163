use Rattle.std.proofs.Common.{◌≡◌, ◌++◌, take}
use Rattle.std.specs.List.{flat_map}
use Rattle.log_texts.specs.Lines.{operation_row}
use Rattle.log_texts.proofs.lines.push_rows.Given as goal

-- the operations so far
abbrev pub invariant-loop-op : goal.invariant-loop-op
invariant-loop-op l = l.out.items ≡ l.fn.out.items ++ flat_map (operation_row l.names l.schema.tables) (take l.op-index l.ops)
