use Rattle.std.proofs.Common.{◌≡◌, take}
use Rattle.table_model.specs.Verdicts.{effects}
use Rattle.confluence_checker.specs.Forms.{newest_first}
use Rattle.confluence_checker.proofs.ancestors.effects.Given as goal

abbrev pub invariant-loop-j : goal.invariant-loop-j
invariant-loop-j l = l.did ≡ effects (newest_first (take l.j-index l.js))
