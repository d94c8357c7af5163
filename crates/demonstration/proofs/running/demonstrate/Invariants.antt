use Rattle.std.proofs.Common.{◌-◌, ◌≡◌, length, min}
use Rattle.demonstration.specs.Demos.{keys_of}
use Rattle.demonstration.specs.Sites.{IsCourse, steps}
use Rattle.demonstration.proofs.running.demonstrate.Given as goal

-- the authors are four, after so many steps, in the last four of which nobody met
abbrev pub invariant-updates : goal.invariant-updates
invariant-updates l =
    (length l.authors.items ≡ 4) × IsCourse (keys_of l.number) (steps l.k (min l.k (l.count - 4)) (min l.k (l.count - 4)) 0) l.authors.items
