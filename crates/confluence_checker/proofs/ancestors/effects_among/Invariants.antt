use Rattle.std.proofs.Common.{◌≡◌, take, filter}
use Rattle.update_model.specs.Graph.{has}
use Rattle.table_model.specs.Verdicts.{effects}
use Rattle.confluence_checker.specs.Forms.{newest_first}
use Rattle.confluence_checker.proofs.ancestors.effects_among.Given as goal

abbrev pub invariant-loop-j : goal.invariant-loop-j
invariant-loop-j l = l.did ≡ effects (filter (λ j. has l.ids j.node.id) (newest_first (take l.j-index l.js)))
