use Rattle.std.proofs.Common.{◌≡◌, map, take}
use Rattle.update_codec.specs.Parts.{id_of}
use Rattle.mem_holder.proofs.adding.ids_of.Given as goal

abbrev pub invariant-loop-update : goal.invariant-loop-update
invariant-loop-update l = l.ids.items ≡ map id_of (take l.update-index l.updates)
