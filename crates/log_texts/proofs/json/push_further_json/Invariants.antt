use Rattle.std.proofs.Common.{◌≡◌, ◌∷◌, ◌++◌, take}
use Rattle.std.specs.List.{flat_map}
use Rattle.log_texts.specs.Json.{whole_json}
use Rattle.log_texts.proofs.json.push_further_json.Given as goal

-- the entries so far
abbrev pub invariant-loop-entry : goal.invariant-loop-entry
invariant-loop-entry l = l.out.items ≡ l.fn.out.items ++ flat_map (λ next. 44 ∷ whole_json l.rows l.schema.tables next) (take l.entry-index l.entries)
