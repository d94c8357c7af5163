use Rattle.std.proofs.Common.{◌≡◌, ℕ, ◌+◌, get_or, take}
use Rattle.tuple_state.specs.Causes.{absent_times}
use Rattle.tuple_state.proofs.causes.count_numbers.Given as goal

-- the links so far are counted
abbrev pub invariant-loop-link : goal.invariant-loop-link
invariant-loop-link l = (k : ℕ) → get_or l.causes k 0 ≡ get_or l.fn.causes k 0 + absent_times (take l.link-index l.links) l.causes k
