use Rattle.std.proofs.Common.{◌≡◌, drop}
use Rattle.table_model.specs.Verdicts.{effects_after, effects_of}
use Rattle.confluence_checker.proofs.effects.effects_of.Given as goal

abbrev pub invariant-loop-number : goal.invariant-loop-number
invariant-loop-number l = effects_after l.node l.number l.did (drop l.number l.ops) ≡ effects_of l.node
