use Rattle.std.proofs.Common.{◌≡◌, ◌++◌}
use Rattle.head_set.specs.Present.{present}
use Rattle.head_set.specs.Spans.{unended}
use Rattle.head_set.proofs.heads.Heads.list.Given as goal

-- what is listed, and what is left
abbrev pub invariant-loop-id : goal.invariant-loop-id
invariant-loop-id l = l.list.items ++ unended l.id-iterator ≡ present l.self
