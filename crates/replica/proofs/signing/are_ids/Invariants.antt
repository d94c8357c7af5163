use Rattle.std.proofs.Common.{take}
use Rattle.std.specs.List.{AllByRecursion}
use Rattle.update_model.specs.Block.{IsId}
use Rattle.replica.proofs.signing.are_ids.Given as goal

abbrev pub invariant-loop-id : goal.invariant-loop-id
invariant-loop-id l = AllByRecursion IsId (take l.id-index l.ids)
