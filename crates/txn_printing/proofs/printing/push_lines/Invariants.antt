use Rattle.std.proofs.Common.{◌≡◌, ◌++◌, take}
use Rattle.txn_printing.specs.Printing.{transaction_text}
use Rattle.txn_printing.proofs.printing.push_lines.Given as goal

-- the lines so far
abbrev pub invariant-loop-op : goal.invariant-loop-op
invariant-loop-op l = l.out.items ≡ l.fn.out.items ++ transaction_text l.schema.tables (take l.op-index l.ops)
