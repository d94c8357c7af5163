use Rattle.std.proofs.Common.{◌↔◌, drop}
use Rattle.update_model.specs.Rows.{AreOps}
use Rattle.update_model.proofs.checking.are_ops.Given as goal

-- all are in form exactly where those that are left are
abbrev pub invariant-loop-number : goal.invariant-loop-number
invariant-loop-number l = AreOps l.number (drop l.number l.ops) ↔ AreOps 0 l.ops
