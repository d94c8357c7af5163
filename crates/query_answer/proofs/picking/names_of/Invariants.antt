use Rattle.std.proofs.Common.{◌≡◌, map, take}
use Rattle.query_answer.proofs.picking.names_of.Given as goal

-- the names so far
abbrev pub invariant-loop-item : goal.invariant-loop-item
invariant-loop-item l = l.names.items ≡ map (λ item. item.name) (take l.item-index l.items)
