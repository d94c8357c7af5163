use Rattle.std.proofs.Common.{◌≡◌, ◌+◌, ◌≤◌, drop}
use Rattle.query.specs.Conditions.{stuck_from, stuck_at}
use Rattle.query.proofs.condition.stuck_at.Given as goal

-- what is wrong with the words that are left, is wrong with all
abbrev pub invariant-loop-read : goal.invariant-loop-read
invariant-loop-read l = record {
  wrong : stuck_from l.stand (l.at + l.read) l.read (drop l.read l.words) ≡ stuck_at l.at l.words;
  deep : l.stand.depth ≤ l.read;
}
