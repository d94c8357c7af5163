use Rattle.std.proofs.Common.{◌≡◌, ◌⊎◌, ◌<◌, ◌++◌, List, [], length, drop, map}
use Rattle.ready_batch.specs.Ready.{IsBehind}
use Rattle.ready_batch.specs.Steps.{AreSlots, AllPlaced, KeepsSlots, AddsFrom}
use Rattle.ready_batch.proofs.adding.add_wave.Given as goal

abbrev pub invariant-places : goal.invariant-places
invariant-places g l = record {
  slots : KeepsSlots g.M.Member.entry l.fn.graph l.fn.slots.items l.graph l.slots.items;
  from : AddsFrom g.M.Member.entry l.fn.graph l.fn.slots.items l.graph;
  placed : (batch : List _) → AreSlots g.M.Member.entry (map g.M.Member.entry l.fn.graph) batch l.fn.slots.items
      → AllPlaced g.M.Member.entry (map g.M.Member.entry l.fn.graph) batch l.fn.slots.items l.fn.parked l.wave
      → AllPlaced g.M.Member.entry (map g.M.Member.entry l.graph) batch l.slots.items l.parked (drop l.place-index l.wave ++ l.next.items);
  further : (l.next.items ≡ []) ⊎ (length l.fn.graph < length l.graph);
  behind : IsBehind l.fn.graph l.graph;
}
