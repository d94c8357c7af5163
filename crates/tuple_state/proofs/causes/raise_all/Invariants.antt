use Rattle.std.proofs.Common.{◌≤◌, List, take}
use Rattle.std.specs.Prelude.{count_by}
use Rattle.std.specs.Vec.{vec_capacity}
use Rattle.tuple_state.specs.Causes.{Raised}
use Rattle.tuple_state.specs.Links.{is_of}
use Rattle.tuple_state.specs.declared.links.Link.{Link}
use Rattle.tuple_state.proofs.causes.raise_all.Given as goal

-- the counts have grown by the links so far
abbrev pub invariant-loop-link : goal.invariant-loop-link
invariant-loop-link l = record {
  raised : (all : List Link) → Raised all (λ k. count_by (is_of k) (take l.link-index l.links)) l.fn.causes l.fn.pending.items l.causes l.pending.items;
  room : vec_capacity l.fn.pending ≤ vec_capacity l.pending;
}
