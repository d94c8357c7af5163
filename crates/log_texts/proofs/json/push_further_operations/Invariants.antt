use Rattle.std.proofs.Common.{◌≡◌, ◌∷◌, ◌++◌, take}
use Rattle.std.specs.List.{flat_map}
use Rattle.log_texts.specs.Json.{operation_json}
use Rattle.log_texts.proofs.json.push_further_operations.Given as goal

-- the operations so far
abbrev pub invariant-loop-op : goal.invariant-loop-op
invariant-loop-op l = l.out.items ≡ l.fn.out.items ++ flat_map (λ next. 44 ∷ operation_json l.schema.tables next) (take l.op-index l.ops)
