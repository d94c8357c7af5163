use Rattle.std.proofs.Common.{◌≡◌, ℕ, ◌+◌, get_or, take}
use Rattle.std.specs.Prelude.{count_by}
use Rattle.tuple_state.specs.Links.{is_of}
use Rattle.tuple_state.proofs.causes.count_places.Given as goal

-- the links so far are counted
abbrev pub invariant-loop-link : goal.invariant-loop-link
invariant-loop-link l = (k : ℕ) → get_or l.causes k 0 ≡ get_or l.fn.causes k 0 + count_by (is_of k) (take l.link-index l.links)
