use Rattle.std.proofs.Common.{◌≡◌, max, take}
use Rattle.std.specs.BTreeMap.{get}
use Rattle.std.specs.List.{fold}
use Rattle.std.specs.Option.{unwrap_or}
use Rattle.update_model.specs.Entry.{id_cmp}
use Rattle.graph_drawing.proofs.depths.greatest_depth.Given as goal

-- the greatest of those so far
abbrev pub invariant-loop-id : goal.invariant-loop-id
invariant-loop-id l = l.greatest ≡ fold (λ depth id. max depth (unwrap_or (get id_cmp l.depths id) 0)) 0 (take l.id-index l.ids)
