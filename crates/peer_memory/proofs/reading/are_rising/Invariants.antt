use Rattle.std.proofs.Common.{drop}
use Rattle.std.specs.Prelude.{None}
use Rattle.update_model.specs.Form.{AreRising}
use Rattle.peer_memory.proofs.reading.are_rising.Given as goal

-- all of them rise exactly where those that are left do, after the last one
abbrev pub invariant-loop-id : goal.invariant-loop-id
invariant-loop-id l = record {
  whole : AreRising None l.ids → AreRising l.last (drop l.id-index l.ids);
  rest : AreRising l.last (drop l.id-index l.ids) → AreRising None l.ids;
}
