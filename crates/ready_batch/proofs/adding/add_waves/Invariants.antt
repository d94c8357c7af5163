use Rattle.std.proofs.Common.{◌+◌, ◌-◌, ◌*◌, List, length, min, map}
use Rattle.update_model.specs.declared.limits.TheConstants.{MAX_MEMBERS}
use Rattle.ready_batch.specs.Ready.{IsBehind}
use Rattle.ready_batch.specs.Steps.{AreSlots, AllPlaced, IsAllOf, KeepsSlots, AddsFrom}
use Rattle.ready_batch.proofs.adding.add_waves.Given as goal

abbrev pub invariant-waves : goal.invariant-waves
invariant-waves g l = record {
  slots : KeepsSlots g.M.Member.entry l.fn.graph l.fn.slots.items l.graph l.slots.items;
  from : AddsFrom g.M.Member.entry l.fn.graph l.fn.slots.items l.graph;
  placed : (batch : List _) → AreSlots g.M.Member.entry (map g.M.Member.entry l.fn.graph) batch l.fn.slots.items → IsAllOf l.initial.wave.items batch
      → AllPlaced g.M.Member.entry (map g.M.Member.entry l.graph) batch l.slots.items l.parked l.wave.items;
  behind : IsBehind l.fn.graph l.graph;
}

abbrev pub decreases-waves : goal.decreases-waves
decreases-waves g l = 2 * (MAX_MEMBERS - length l.graph) + min 1 (length l.wave.items)
