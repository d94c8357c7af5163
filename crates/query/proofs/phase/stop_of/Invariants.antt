use Rattle.std.proofs.Common.{◌≡◌, drop}
use Rattle.query.specs.Grammar.{stop_from, stop_of}
use Rattle.query.proofs.phase.stop_of.Given as goal

-- what stops the words that are left, stops all
abbrev pub invariant-loop-at : goal.invariant-loop-at
invariant-loop-at l = stop_from l.phase l.at (drop l.at l.words) ≡ stop_of l.words
