use Rattle.std.proofs.Common.{◌≡◌, ℕ, Bool, ◌&&◌, take}
use Rattle.std.specs.List.{list_all}
use Rattle.tuple_state.specs.declared.links.Link.{Link}
use Rattle.tuple_state.proofs.parents.add_parents.Given as goal

-- the places so far
abbrev pub invariant-loop-link : goal.invariant-loop-link
invariant-loop-link l = (test : ℕ → Bool)
    → list_all test l.pending.keys ≡ (list_all test l.fn.pending.keys && list_all (λ (link : Link). test link.place) (take l.link-index l.links))
