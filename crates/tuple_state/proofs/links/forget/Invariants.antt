use Rattle.std.proofs.Common.{◌≡◌, ℕ, ◌<◌, None, get_or}
use Rattle.tuple_state.proofs.links.forget.Given as goal

-- the places so far have no last link
abbrev pub invariant-loop-last : goal.invariant-loop-last
invariant-loop-last l = (place : ℕ) → place < l.last-index → get_or l.newest place None ≡ None
